-- A move that is joint has begun.
use Rattle.vfm_drive.proofs.Ends.{copied_may}
use Rattle.vfm_drive.proofs.laws.copied_machines_may_be_taken_over.Goals as goal

pub returns : goal.returns
returns c = copied_may
