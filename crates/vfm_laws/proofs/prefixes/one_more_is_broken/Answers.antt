-- The walk comes to the entry unbroken.
use Rattle.vfm_laws.proofs.Walks.{more_broken}
use Rattle.vfm_laws.proofs.prefixes.one_more_is_broken.Goals as goal

pub returns : goal.returns
returns c = more_broken
