-- What stands in the route, and then what is still to come, is the whole path.
use Rattle.std.proofs.Common.{◌≡◌, ◌+◌, ◌-◌, ◌++◌, ◌∷◌, length}
use Rattle.vfm_types.specs.Paths.{states_up_to}
use Rattle.vfm_states.proofs.walk.path.Given as goal

abbrev pub invariant-loop-step : goal.invariant-loop-step
invariant-loop-step l =
    (length l.route ≡ l._step + 1) × (l.route ++ states_up_to (4 - l._step) l.state l.to l.flags ≡ l.fn.from ∷ states_up_to 4 l.fn.from l.fn.to l.fn.flags)
