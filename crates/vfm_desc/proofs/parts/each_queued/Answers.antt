use Rattle.std.proofs.lemmas.Result.{err_from_is_err_and}
use Rattle.std.proofs.lemmas.Bool.{lt-ltb}
use Rattle.std.proofs.Common.{ℕ, nat_lt, arith}
use Rattle.serde_json.specs.View.{view}
use Rattle.vfm_desc.specs.Described.{queued}
use Rattle.vfm_desc.proofs.Steps.{goes_on, ends, is_done, list_all-push}
use Rattle.vfm_desc.proofs.parts.each_queued.Goals as goal

pub returns-in_err-next-clause-value : goal.returns-in_err-next-clause-value
returns-in_err-next-clause-value c =
    let p = err_from_is_err_and c.from_residual.result c.from_residual.ensures.1 in
    rw (p.1, p.2) (ends c.in_err-next.field-0.0 view (λ k. queued c.args.d c.args.jobs) c.loop-value.queue.items c.loop-value.value-index c.args.values.now c.value-item.result _ c.loop-value-test.true c.value-item.is c.in_err-next.ensures.value c.loop-value.invariant.value)

pub loop-value-preserved : goal.loop-value-preserved
loop-value-preserved c = record {
  value = rw c.in-Ok.ensures.items (goes_on view (λ k. queued c.args.d c.args.jobs) c.loop-value.queue.items c.loop-value.value-index c.args.values.now c.value-item.result c.in_ok-next.next _ c.loop-value-test.true c.value-item.is c.in_ok-next.ensures.value c.loop-value.invariant.value);
  count = omega (arith, c.in-Ok.ensures.len);
  below = rw c.in-Ok.ensures.items (list_all-push (λ (n : ℕ). nat_lt n c.args.jobs) c.loop-value.queue.items c.in_ok-next.next c.loop-value.invariant.below (lt-ltb _ _ c.in_ok-next.ensures.below));
}

pub returns-clause-value : goal.returns-clause-value
returns-clause-value c = is_done view (λ k. queued c.args.d c.args.jobs) c.loop-value.queue.items c.loop-value.value-index c.args.values.now _ c.loop-value-test.false c.loop-value.invariant.value
