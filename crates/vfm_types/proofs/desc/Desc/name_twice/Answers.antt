-- One device more in the walk over the names.
use Rattle.std.proofs.Common.{length, sym, ap, ◌∙◌, arith}
use Rattle.vfm_types.proofs.FormFault.{name_twice_more, name_twice_found}
use Rattle.vfm_types.proofs.desc.Desc.name_twice.Goals as goal

pub returns-then-is_name_taken : goal.returns-then-is_name_taken
returns-then-is_name_taken c =
    sym (name_twice_found c.as_slice-shapes.result.now c.loop-d.d c.index-shapes-d.result (omega (arith, ap length c.as_slice-shapes.ensures.value)) c.index-shapes-d.is (sym c.if-is_name_taken.ensures))
    ∙ c.loop-d.invariant

pub loop-d-preserved : goal.loop-d-preserved
loop-d-preserved c =
    sym (name_twice_more c.as_slice-shapes.result.now c.loop-d.d c.index-shapes-d.result (omega (arith, ap length c.as_slice-shapes.ensures.value)) c.index-shapes-d.is (sym c.if-is_name_taken.ensures))
    ∙ c.loop-d.invariant
