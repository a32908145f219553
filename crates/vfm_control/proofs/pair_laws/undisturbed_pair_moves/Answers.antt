-- The four events, one after the other.
use Rattle.std.proofs.Common.{refl}
use Rattle.vfm_control.specs.Pair.{pair_after}
use Rattle.vfm_control.proofs.Digests.{same_as_itself}
use Rattle.vfm_control.proofs.pair_laws.undisturbed_pair_moves.Goals as goal

pub returns-clause-source : goal.returns-clause-source
unfolding pair_after
returns-clause-source c own = rw (same_as_itself own) refl

pub returns-clause-dest : goal.returns-clause-dest
unfolding pair_after
returns-clause-dest c own = rw (same_as_itself own, same_as_itself own) refl
