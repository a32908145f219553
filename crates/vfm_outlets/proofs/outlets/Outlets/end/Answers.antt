use Rattle.std.proofs.Common.{◌≡◌, ◌∙◌, refl, sym, ap, ◌<◌, List, length, map, slice_index_or}
use Rattle.std.specs.Vec.{with_items}
use Rattle.vfm_send.specs.declared.sender.Sender.{Sender}
use Rattle.vfm_send.specs.Sends.{link_of}
use Rattle.vfm_outlets.specs.Carrying.{SenderFares}
use Rattle.vfm_outlets.proofs.Faring.{each_fares}
use Rattle.vfm_outlets.proofs.Given.{refilled}
use Rattle.vfm_outlets.proofs.Keeping.{SenderEnds, links_same, shares_ended}
use Rattle.vfm_outlets.proofs.Sending.{each_named}
use Rattle.vfm_outlets.proofs.outlets.Outlets.end.Goals as goal

pub returns-clause-shares : goal.returns-clause-shares
returns-clause-shares g c = λ D starts all carried.
    let old : c.deref_mut.result.now ≡ c.args.self.now.senders.items = c.deref_mut.ensures.value in
    let items : (with_items c.args.self.now.senders c.end_each.new.senders).items ≡ c.end_each.new.senders =
    refilled c.args.self.now.senders c.end_each.new.senders (c.end_each.ensures.count ∙ ap length old) in
    shares_ended g.L.Link.sent g.L.Link.finished c.args.abort D starts all c.args.self.now
    (with_items c.args.self.now.senders c.end_each.new.senders).items carried
    (ap length items ∙ c.end_each.ensures.count ∙ ap length old)
    (each_named (SenderEnds g.L.Link.sent g.L.Link.finished c.args.abort c.args.self.now.session c.args.self.now.version)
    c.deref_mut.result.now c.args.self.now.senders.items c.end_each.new.senders
    (with_items c.args.self.now.senders c.end_each.new.senders).items old (sym items) c.end_each.ensures.ends)

pub returns-clause-fares : goal.returns-clause-fares
returns-clause-fares g c =
    let old : c.deref_mut.result.now ≡ c.args.self.now.senders.items = c.deref_mut.ensures.value in
    let items : (with_items c.args.self.now.senders c.end_each.new.senders).items ≡ c.end_each.new.senders =
    refilled c.args.self.now.senders c.end_each.new.senders (c.end_each.ensures.count ∙ ap length old) in
    each_fares g.L.Link.failed_out c.args.self.now.senders.items (with_items c.args.self.now.senders c.end_each.new.senders).items
    (ap length items ∙ c.end_each.ensures.count ∙ ap length old)
    (each_named (SenderFares g.L.Link.failed_out) c.deref_mut.result.now c.args.self.now.senders.items c.end_each.new.senders
    (with_items c.args.self.now.senders c.end_each.new.senders).items old (sym items) c.end_each.ensures.fares)

pub returns-clause-received : goal.returns-clause-received
returns-clause-received g c =
    let old : c.deref_mut.result.now ≡ c.args.self.now.senders.items = c.deref_mut.ensures.value in
    let items : (with_items c.args.self.now.senders c.end_each.new.senders).items ≡ c.end_each.new.senders =
    refilled c.args.self.now.senders c.end_each.new.senders (c.end_each.ensures.count ∙ ap length old) in
    links_same g.L.Link.received c.args.self.now.senders.items (with_items c.args.self.now.senders c.end_each.new.senders).items
    (ap (map (λ s. g.L.Link.received (link_of s))) items ∙ c.end_each.ensures.received ∙ ap (map (λ s. g.L.Link.received (link_of s))) old)

pub returns-clause-ended : goal.returns-clause-ended
returns-clause-ended g c =
    let old : c.deref_mut.result.now ≡ c.args.self.now.senders.items = c.deref_mut.ensures.value in
    let items : (with_items c.args.self.now.senders c.end_each.new.senders).items ≡ c.end_each.new.senders =
    refilled c.args.self.now.senders c.end_each.new.senders (c.end_each.ensures.count ∙ ap length old) in
    links_same g.L.Link.ended c.args.self.now.senders.items (with_items c.args.self.now.senders c.end_each.new.senders).items
    (ap (map (λ s. g.L.Link.ended (link_of s))) items ∙ c.end_each.ensures.ended ∙ ap (map (λ s. g.L.Link.ended (link_of s))) old)

pub returns-clause-failed_in : goal.returns-clause-failed_in
returns-clause-failed_in g c =
    let old : c.deref_mut.result.now ≡ c.args.self.now.senders.items = c.deref_mut.ensures.value in
    let items : (with_items c.args.self.now.senders c.end_each.new.senders).items ≡ c.end_each.new.senders =
    refilled c.args.self.now.senders c.end_each.new.senders (c.end_each.ensures.count ∙ ap length old) in
    links_same g.L.Link.failed_in c.args.self.now.senders.items (with_items c.args.self.now.senders c.end_each.new.senders).items
    (ap (map (λ s. g.L.Link.failed_in (link_of s))) items ∙ c.end_each.ensures.failed_in ∙ ap (map (λ s. g.L.Link.failed_in (link_of s))) old)
