-- By induction over the list, down to its one Joint.
use Rattle.vfm_laws.proofs.JointStop.{joint_exists}
use Rattle.vfm_laws.proofs.machine.joint_machine_exists.Goals as goal

pub returns : goal.returns
returns c = joint_exists
