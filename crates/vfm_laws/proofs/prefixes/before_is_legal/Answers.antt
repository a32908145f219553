-- By induction over what comes after.
use Rattle.vfm_laws.proofs.Walks.{legal_before}
use Rattle.vfm_laws.proofs.prefixes.before_is_legal.Goals as goal

pub returns : goal.returns
returns c = legal_before
