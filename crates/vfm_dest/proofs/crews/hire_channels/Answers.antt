use Rattle.std.proofs.Common.{rules, ◌≡◌, ◌∙◌, sym, ◌+◌, ◌∷◌, [], ◌++◌, length, arith, append_assoc}
use Rattle.std.proofs.lemmas.List.{length-append}
use Rattle.vfm_dest.specs.ChannelWorkers.{link_in, fan_in, expect_in}
use Rattle.vfm_dest.proofs.Indexed.{read-more, read-next, all-more}
use Rattle.vfm_dest.proofs.crews.hire_channels.Goals as goal

pub loop-link-preserved : goal.loop-link-preserved
loop-link-preserved g c =
    let inv = c.loop-link.invariant in
    let yielded = c.loop-link.yielded in
    let link = c.in-Some.link in
    let workers = c.loop-link.workers.items in
    let worker = c.of-worker.result in
    let now = c.push.new.self.items in
    let split : c.args.links.items ≡ yielded ++ link ∷ c.next.new.self.rest.items = search rules in
    let pushed : now ≡ workers ++ worker ∷ [] = search (rules, arith) in
    let first : c.loop-link.fans.rest.items ≡ c.unwrap-fan.result ∷ c.next-in-loop-link.new.self.rest.items = search rules in
    let one : length (yielded ++ link ∷ []) ≡ length yielded + 1 = length-append yielded (link ∷ []) in
    record {
      every = append_assoc yielded (link ∷ []) c.next.new.self.rest.items ∙ sym split;
      number = omega (arith, one, inv.number);
      count = search (rules, arith);
      room = search (rules, arith);
      links = read-more workers now worker pushed link_in yielded link inv.links c.of-worker.ensures.link;
      fans =
          read-next workers now worker pushed fan_in c.loop-link.fans.rest.items c.next-in-loop-link.new.self.rest.items c.args.fans.items
          c.unwrap-fan.result inv.fans first c.of-worker.ensures.fan;
      expects = all-more workers now worker pushed (λ w. expect_in w ≡ c.args.expect) inv.expects c.of-worker.ensures.expect;
    }
