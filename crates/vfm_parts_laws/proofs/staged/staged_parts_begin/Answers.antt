-- Every device stands still, and nothing is left to be copied.
use Rattle.vfm_parts_laws.proofs.StagedWorlds.{staged_first}
use Rattle.vfm_parts_laws.proofs.staged.staged_parts_begin.Goals as goal

pub returns : goal.returns
returns c = staged_first
