use Rattle.std.proofs.Common.{rules, ◌≡◌, ◌∙◌, sym, false, ◌+◌, ◌∷◌, [], ◌++◌, length, arith, append_assoc}
use Rattle.std.proofs.lemmas.List.{length-append}
use Rattle.vfm_stream_work.specs.Workers.{funnel_of, intake_of, is_short}
use Rattle.vfm_dest.proofs.Indexed.{read-more, read-next, all-more}
use Rattle.vfm_dest.proofs.crews.hire_streams.Goals as goal

pub loop-funnel-preserved : goal.loop-funnel-preserved
loop-funnel-preserved c =
    let inv = c.loop-funnel.invariant in
    let yielded = c.loop-funnel.yielded in
    let funnel = c.in-Some.funnel in
    let workers = c.loop-funnel.workers.items in
    let worker = c.of-worker.result in
    let now = c.push.new.self.items in
    let split : c.args.funnels.items ≡ yielded ++ funnel ∷ c.next.new.self.rest.items = search rules in
    let pushed : now ≡ workers ++ worker ∷ [] = search (rules, arith) in
    let first : c.loop-funnel.intakes.rest.items ≡ c.unwrap-intake.result ∷ c.next-in-loop-funnel.new.self.rest.items = search rules in
    let one : length (yielded ++ funnel ∷ []) ≡ length yielded + 1 = length-append yielded (funnel ∷ []) in
    record {
      every = append_assoc yielded (funnel ∷ []) c.next.new.self.rest.items ∙ sym split;
      number = omega (arith, one, inv.number);
      count = search (rules, arith);
      room = search (rules, arith);
      funnels = read-more workers now worker pushed funnel_of yielded funnel inv.funnels c.of-worker.ensures.funnel;
      intakes =
          read-next workers now worker pushed intake_of c.loop-funnel.intakes.rest.items c.next-in-loop-funnel.new.self.rest.items c.args.intakes.items
          c.unwrap-intake.result inv.intakes first c.of-worker.ensures.intake;
      short = all-more workers now worker pushed (λ w. is_short w ≡ false) inv.short c.of-worker.ensures.short;
    }
