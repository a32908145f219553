-- A fact of what every list keeps.
use Rattle.vfm_laws.proofs.StateLaws.{joint_nothing, joint_stands}
use Rattle.vfm_laws.proofs.states.joint_is_still.Goals as goal

pub returns-clause-stands : goal.returns-clause-stands
returns-clause-stands c = joint_stands

pub returns-clause-nothing : goal.returns-clause-nothing
returns-clause-nothing c = joint_nothing
