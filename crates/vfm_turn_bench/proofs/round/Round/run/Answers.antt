use Rattle.std.proofs.Common.{◌≡◌, length, sym, ap, ◌∙◌}
use Rattle.vfm_turn.specs.Order.{has}
use Rattle.vfm_turn.specs.Words.{number_of}
use Rattle.vfm_turn_bench.specs.declared.worker.Worker.{Worker}
use Rattle.vfm_turn_bench.specs.Workers.{numbers_of}
use Rattle.vfm_turn_bench.proofs.Workers.{same_map, back_whole}
use Rattle.vfm_turn_bench.proofs.round.Round.run.Goals as goal

pub dismiss-requires-clause-all : goal.dismiss-requires-clause-all
dismiss-requires-clause-all g c = λ k h. let ws = c.in_ok-workers.workers in let new = c.work_all.new.workers in let old = c.as_mut_slice.result.now in let value = c.as_mut_slice.ensures.value in
    let len : length new ≡ length old = c.work_all.auto.workers in
    ap (has k) (ap numbers_of (back_whole ws.len new ws.items ws.ok.0 (len ∙ ap length value))
    ∙ (same_map (λ (w : Worker). number_of w.ticket) old new (sym len) (λ i d lt. (c.work_all.ensures i d lt).1) ∙ ap numbers_of value)) ∙ c.in_ok-workers.ensures.all k h
