-- From the last pass on, then for every list.
use Rattle.vfm_copying.proofs.LastPass.{copied_pages}
use Rattle.vfm_copying.proofs.joint.last_pass_copies_joint_pages.Goals as goal

pub returns : goal.returns
returns c = copied_pages
