-- A core's machine has the sizes of its description.
use Rattle.std.proofs.Common.{sym, subst}
use Rattle.vfm_types.specs.Machine.{Machine}
use Rattle.vfm_plain.specs.Shape.{HasShape}
use Rattle.vfm_core.proofs.Machines.{shape_in}
use Rattle.vfm_bench.proofs.report.machine_of.Goals as goal

pub returns : goal.returns
returns c =
    let core = c.args.core.now in
    subst (λ (m : Machine). HasShape core.desc m) (sym c.copy_into.ensures) (shape_in core.desc core.world c.desc.ensures.fits)
