-- Page by page, and block by block.
use Rattle.vfm_copying.proofs.AllSent.{all_sent}
use Rattle.vfm_copying.proofs.joint.last_pass_sends_joint_machine.Goals as goal

pub returns : goal.returns
returns c = all_sent
