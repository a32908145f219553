use Rattle.std.proofs.Common.{◌≡◌, ◌∙◌, refl, sym, ap, ◌<◌, List, length, map, slice_index_or}
use Rattle.std.specs.Vec.{with_items}
use Rattle.vfm_send.specs.declared.sender.Sender.{Sender}
use Rattle.vfm_send.specs.Sends.{given, left, link_of, SentPrefix}
use Rattle.vfm_outlets.specs.Carrying.{SenderFares}
use Rattle.vfm_outlets.proofs.Faring.{each_fares}
use Rattle.vfm_outlets.proofs.Given.{refilled}
use Rattle.vfm_outlets.proofs.Keeping.{carries_sent, links_same}
use Rattle.vfm_outlets.proofs.Sending.{each_named}
use Rattle.vfm_outlets.proofs.outlets.Outlets.send_all.Goals as goal

pub returns-clause-carries : goal.returns-clause-carries
returns-clause-carries g c = λ D starts all carried.
    let old : c.deref_mut.result.now ≡ c.args.self.now.senders.items = c.deref_mut.ensures.value in
    let items : (with_items c.args.self.now.senders c.send_each.new.senders).items ≡ c.send_each.new.senders =
    refilled c.args.self.now.senders c.send_each.new.senders (c.send_each.ensures.count ∙ ap length old) in
    carries_sent g.L.Link.sent D starts all c.args.self.now _ carried
    (ap length items ∙ c.send_each.ensures.count ∙ ap length old) refl refl refl
    (ap (map (given g.L.Link.sent)) items ∙ c.send_each.ensures.given ∙ ap (map (given g.L.Link.sent)) old)
    (each_named (λ (was now : Sender g.row.L.Denot). SentPrefix (g.L.Link.sent (link_of was)) (g.L.Link.sent (link_of now)) (left was))
    c.deref_mut.result.now c.args.self.now.senders.items c.send_each.new.senders (with_items c.args.self.now.senders c.send_each.new.senders).items
    old (sym items) c.send_each.ensures.prefix)

pub returns-clause-fares : goal.returns-clause-fares
returns-clause-fares g c =
    let old : c.deref_mut.result.now ≡ c.args.self.now.senders.items = c.deref_mut.ensures.value in
    let items : (with_items c.args.self.now.senders c.send_each.new.senders).items ≡ c.send_each.new.senders =
    refilled c.args.self.now.senders c.send_each.new.senders (c.send_each.ensures.count ∙ ap length old) in
    each_fares g.L.Link.failed_out c.args.self.now.senders.items (with_items c.args.self.now.senders c.send_each.new.senders).items
    (ap length items ∙ c.send_each.ensures.count ∙ ap length old)
    (each_named (SenderFares g.L.Link.failed_out) c.deref_mut.result.now c.args.self.now.senders.items c.send_each.new.senders
    (with_items c.args.self.now.senders c.send_each.new.senders).items old (sym items) c.send_each.ensures.fares)

pub returns-clause-received : goal.returns-clause-received
returns-clause-received g c =
    let old : c.deref_mut.result.now ≡ c.args.self.now.senders.items = c.deref_mut.ensures.value in
    let items : (with_items c.args.self.now.senders c.send_each.new.senders).items ≡ c.send_each.new.senders =
    refilled c.args.self.now.senders c.send_each.new.senders (c.send_each.ensures.count ∙ ap length old) in
    links_same g.L.Link.received c.args.self.now.senders.items (with_items c.args.self.now.senders c.send_each.new.senders).items
    (ap (map (λ s. g.L.Link.received (link_of s))) items ∙ c.send_each.ensures.received ∙ ap (map (λ s. g.L.Link.received (link_of s))) old)

pub returns-clause-finished : goal.returns-clause-finished
returns-clause-finished g c =
    let old : c.deref_mut.result.now ≡ c.args.self.now.senders.items = c.deref_mut.ensures.value in
    let items : (with_items c.args.self.now.senders c.send_each.new.senders).items ≡ c.send_each.new.senders =
    refilled c.args.self.now.senders c.send_each.new.senders (c.send_each.ensures.count ∙ ap length old) in
    links_same g.L.Link.finished c.args.self.now.senders.items (with_items c.args.self.now.senders c.send_each.new.senders).items
    (ap (map (λ s. g.L.Link.finished (link_of s))) items ∙ c.send_each.ensures.finished ∙ ap (map (λ s. g.L.Link.finished (link_of s))) old)

pub returns-clause-ended : goal.returns-clause-ended
returns-clause-ended g c =
    let old : c.deref_mut.result.now ≡ c.args.self.now.senders.items = c.deref_mut.ensures.value in
    let items : (with_items c.args.self.now.senders c.send_each.new.senders).items ≡ c.send_each.new.senders =
    refilled c.args.self.now.senders c.send_each.new.senders (c.send_each.ensures.count ∙ ap length old) in
    links_same g.L.Link.ended c.args.self.now.senders.items (with_items c.args.self.now.senders c.send_each.new.senders).items
    (ap (map (λ s. g.L.Link.ended (link_of s))) items ∙ c.send_each.ensures.ended ∙ ap (map (λ s. g.L.Link.ended (link_of s))) old)

pub returns-clause-failed_in : goal.returns-clause-failed_in
returns-clause-failed_in g c =
    let old : c.deref_mut.result.now ≡ c.args.self.now.senders.items = c.deref_mut.ensures.value in
    let items : (with_items c.args.self.now.senders c.send_each.new.senders).items ≡ c.send_each.new.senders =
    refilled c.args.self.now.senders c.send_each.new.senders (c.send_each.ensures.count ∙ ap length old) in
    links_same g.L.Link.failed_in c.args.self.now.senders.items (with_items c.args.self.now.senders c.send_each.new.senders).items
    (ap (map (λ s. g.L.Link.failed_in (link_of s))) items ∙ c.send_each.ensures.failed_in ∙ ap (map (λ s. g.L.Link.failed_in (link_of s))) old)
