-- The definition, read once.
use Rattle.std.proofs.Common.{refl}
use Rattle.vfm_control.specs.Pair.{pair_after}
use Rattle.vfm_control.proofs.pair_laws.one_more_event.Goals as goal

pub returns-clause-first : goal.returns-clause-first
unfolding pair_after
returns-clause-first c own = refl

pub returns-clause-step : goal.returns-clause-step
unfolding pair_after
returns-clause-step c own past event = refl
