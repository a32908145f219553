use Rattle.vfm_device.proofs.OfParts.{barred_by_part, rung_plain}
use Rattle.vfm_device.proofs.laws.engine_steps_are_part_steps.Goals as goal

pub returns-clause-barred : goal.returns-clause-barred
returns-clause-barred c = barred_by_part

pub returns-clause-rung : goal.returns-clause-rung
returns-clause-rung c = rung_plain
