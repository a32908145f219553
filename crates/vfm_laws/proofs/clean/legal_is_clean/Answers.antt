-- By induction over the list.
use Rattle.vfm_laws.proofs.Cleanness.{legal_clean}
use Rattle.vfm_laws.proofs.clean.legal_is_clean.Goals as goal

pub returns : goal.returns
returns c = legal_clean
