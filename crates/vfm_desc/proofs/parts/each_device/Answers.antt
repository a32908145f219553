use Rattle.std.proofs.lemmas.Result.{err_from_is_err_and}
use Rattle.std.proofs.lemmas.List.Elements.{All-push}
use Rattle.std.proofs.Common.{arith}
use Rattle.serde_json.specs.View.{view}
use Rattle.vfm_types.specs.Valid.{ShapeInRange}
use Rattle.vfm_desc.specs.Described.{device_in}
use Rattle.vfm_desc.proofs.Steps.{goes_on, ends, is_done}
use Rattle.vfm_desc.proofs.parts.each_device.Goals as goal

pub returns-in_err-next-clause-value : goal.returns-in_err-next-clause-value
returns-in_err-next-clause-value c =
    let p = err_from_is_err_and c.from_residual.result c.from_residual.ensures.1 in
    rw (p.1, p.2) (ends c.in_err-next.field-0.0 view device_in c.loop-d.shapes.items c.loop-d.d c.args.objects.now c.index-objects-d.result _ c.loop-d-test.true c.index-objects-d.is c.in_err-next.ensures.value c.loop-d.invariant.value)

pub loop-d-preserved : goal.loop-d-preserved
loop-d-preserved c = record {
  value = rw c.in-Ok.ensures.items (goes_on view device_in c.loop-d.shapes.items c.loop-d.d c.args.objects.now c.index-objects-d.result c.in_ok-next.next _ c.loop-d-test.true c.index-objects-d.is c.in_ok-next.ensures.value c.loop-d.invariant.value);
  count = omega (arith, c.in-Ok.ensures.len);
  in_range = rw c.in-Ok.ensures.items (All-push ShapeInRange c.loop-d.shapes.items c.in_ok-next.next c.loop-d.invariant.in_range c.in_ok-next.ensures.in_range);
}

pub returns-clause-value : goal.returns-clause-value
returns-clause-value c = is_done view device_in c.loop-d.shapes.items c.loop-d.d c.args.objects.now _ c.loop-d-test.false c.loop-d.invariant.value
