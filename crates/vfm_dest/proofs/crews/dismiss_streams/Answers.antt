use Rattle.std.proofs.Common.{rules, ◌≡◌, ◌∙◌, sym, false, ◌∷◌, [], ◌++◌, arith, append_assoc}
use Rattle.vfm_intake.proofs.Elements.{each-more}
use Rattle.vfm_stream_work.specs.Workers.{funnel_of, intake_of, is_short}
use Rattle.vfm_dest.proofs.Indexed.{kept-more}
use Rattle.vfm_dest.proofs.crews.dismiss_streams.Goals as goal

pub loop-worker-preserved : goal.loop-worker-preserved
loop-worker-preserved c =
    let inv = c.loop-worker.invariant in
    let yielded = c.loop-worker.yielded in
    let worker = c.in-Some.worker in
    let parts = c.into_parts-funnel.result in
    let split : c.args.workers.items ≡ yielded ++ worker ∷ c.next.new.self.rest.items = search rules in
    let funnels : c.push.new.self.items ≡ c.loop-worker.all.funnels.items ++ parts.0 ∷ [] = search (rules, arith) in
    let intakes : c.push-in-loop-worker.new.self.items ≡ c.loop-worker.all.intakes.items ++ parts.1 ∷ [] = search (rules, arith) in
    record {
      every = append_assoc yielded (worker ∷ []) c.next.new.self.rest.items ∙ sym split;
      funnels =
          kept-more funnel_of yielded worker c.loop-worker.all.funnels.items c.push.new.self.items parts.0 funnels inv.funnels
          c.into_parts-funnel.ensures.funnel;
      intakes =
          kept-more intake_of yielded worker c.loop-worker.all.intakes.items c.push-in-loop-worker.new.self.items parts.1 intakes inv.intakes
          c.into_parts-funnel.ensures.intake;
      short = λ none.
          each-more (λ k w. is_short w ≡ false) yielded worker (inv.short c.if-all.false) (sym c.into_parts-funnel.ensures.short ∙ none);
      funnels_room = search (rules, arith);
      intakes_room = search (rules, arith);
    }
