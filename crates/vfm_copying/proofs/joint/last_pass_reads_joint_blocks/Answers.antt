-- From the last pass on, then for every list.
use Rattle.vfm_copying.proofs.LastBlocks.{read_blocks}
use Rattle.vfm_copying.proofs.joint.last_pass_reads_joint_blocks.Goals as goal

pub returns : goal.returns
returns c = read_blocks
