use Rattle.std.proofs.lemmas.Result.{err_from_is_err_and}
use Rattle.serde_json.specs.View.{view}
use Rattle.vfm_types.specs.declared.fault.FieldName.TheVariants.{Bar}
use Rattle.vfm_types.specs.Ranges.{takes}
use Rattle.vfm_desc.specs.Reading.{size_in}
use Rattle.vfm_desc.proofs.Steps.{goes_on, ends, is_done, list_all-push}
use Rattle.vfm_desc.proofs.sizes.each_size.Goals as goal

pub returns-in_err-next-clause-value : goal.returns-in_err-next-clause-value
returns-in_err-next-clause-value c =
    let p = err_from_is_err_and c.from_residual.result c.from_residual.ensures.1 in
    rw (p.1, p.2) (ends c.in_err-next.field-0.0 view (λ k. size_in c.args.level) c.loop-value.sizes.items c.loop-value.value-index c.args.values.now c.value-item.result _ c.loop-value-test.true c.value-item.is c.in_err-next.ensures.value c.loop-value.invariant.value)

pub loop-value-preserved : goal.loop-value-preserved
loop-value-preserved c = record {
  value = rw c.in-Ok.ensures.items (goes_on view (λ k. size_in c.args.level) c.loop-value.sizes.items c.loop-value.value-index c.args.values.now c.value-item.result c.in_ok-next.next _ c.loop-value-test.true c.value-item.is c.in_ok-next.ensures.value c.loop-value.invariant.value);
  taken = rw c.in-Ok.ensures.items (list_all-push (takes Bar) c.loop-value.sizes.items c.in_ok-next.next c.loop-value.invariant.taken c.in_ok-next.ensures.taken);
}

pub returns-clause-value : goal.returns-clause-value
returns-clause-value c = is_done view (λ k. size_in c.args.level) c.loop-value.sizes.items c.loop-value.value-index c.args.values.now _ c.loop-value-test.false c.loop-value.invariant.value
