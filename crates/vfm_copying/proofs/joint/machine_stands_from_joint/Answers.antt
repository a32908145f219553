-- Nothing is delivered where every device stands.
use Rattle.vfm_copying.proofs.LastPass.{standing_machine}
use Rattle.vfm_copying.proofs.joint.machine_stands_from_joint.Goals as goal

pub returns : goal.returns
returns c = standing_machine
