use Rattle.std.proofs.Common.{◌%◌, length}
use Rattle.vfm_device_part.specs.Pick.{enabled_steps}
use Rattle.vfm_device_part.proofs.AllowedSteps.{allowed_stands, enabled_allowed, picked_none_iff, stands_picked}
use Rattle.vfm_device_part.proofs.laws.picks_are_allowed_steps.Goals as goal

pub returns-clause-own : goal.returns-clause-own
returns-clause-own c D d pick dev entry fits is =
    (enabled_allowed D d dev (pick % length (enabled_steps D d dev)) entry fits is).own

pub returns-clause-allowed : goal.returns-clause-allowed
returns-clause-allowed c D d pick dev entry fits is =
    (enabled_allowed D d dev (pick % length (enabled_steps D d dev)) entry fits is).fine

pub returns-clause-each : goal.returns-clause-each
returns-clause-each c D d dev entry fits own fine =
    stands_picked (enabled_steps D d dev) entry (allowed_stands D d dev entry own fine)

pub returns-clause-none : goal.returns-clause-none
returns-clause-none c = picked_none_iff
