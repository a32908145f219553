-- What the laws of the table speak of: the steps of a path, its end, its interior, and how a running device comes to stop.
use Rattle.std.specs.Prelude.{ℕ, ◌&&◌, not, Bool, true, false, Ok, Err, List, [], ◌∷◌}
use Rattle.vfm_types.specs.declared.state.MigState.{MigState}
use Rattle.vfm_types.specs.declared.state.MigState.TheVariants.{Running, StopCopy, RunningP2p, PreCopy, PreCopyP2p}
use Rattle.vfm_types.specs.Paths.{same_state, next_of}
use Rattle.vfm_types.specs.Arcs.{is_stopped}

-- each step of a path, from a state to the one after it, passes the test
abbrev pub each_step : (MigState → MigState → Bool) → List MigState → Bool
each_step test [] = true
each_step test (a ∷ []) = true
each_step test (a ∷ (b ∷ rest)) = test a b && each_step test (b ∷ rest)

-- one state is the next one after another on the way to a target
abbrev pub is_next : MigState → ℕ → MigState → MigState → Bool
is_next to bits a b = elim (next_of a to bits) [ Ok next ↦ same_state next b | Err _ ↦ false ]

-- a path begins with a state
abbrev pub begins_at : MigState → List MigState → Bool
begins_at from [] = false
begins_at from (a ∷ rest) = same_state a from

-- a path ends with a state, which stands nowhere before
abbrev pub ends_at : MigState → List MigState → Bool
ends_at to [] = false
ends_at to (a ∷ []) = same_state a to
ends_at to (a ∷ (b ∷ rest)) = not (same_state a to) && ends_at to (b ∷ rest)

-- a path without its last state
abbrev pub without_last : List MigState → List MigState
without_last [] = []
without_last (a ∷ []) = []
without_last (a ∷ (b ∷ rest)) = a ∷ without_last (b ∷ rest)

-- the interior of a path: its states without the first and the last
abbrev pub interior : List MigState → List MigState
interior [] = []
interior (a ∷ rest) = without_last rest

-- a state in which a device lends its data to be read: STOP_COPY, PRE_COPY or PRE_COPY_P2P
abbrev pub lends_data : MigState → Bool
lends_data StopCopy = true
lends_data PreCopy = true
lends_data PreCopyP2p = true
lends_data _ = false

-- the two ways that pass a state which lends data: from PRE_COPY to STOP_COPY, and from RUNNING to PRE_COPY_P2P
abbrev pub lends_on_the_way : MigState → MigState → Bool
lends_on_the_way PreCopy StopCopy = true
lends_on_the_way Running PreCopyP2p = true
lends_on_the_way _ _ = false

-- RUNNING_P2P stands before the first stopped state, if there is one
abbrev pub stops_by_p2p : List MigState → Bool
stops_by_p2p [] = true
stops_by_p2p (RunningP2p ∷ rest) = true
stops_by_p2p (a ∷ rest) = not (is_stopped a) && stops_by_p2p rest

-- wherever a path is RUNNING, it passes RUNNING_P2P before it stops
abbrev pub running_stops_by_p2p : List MigState → Bool
running_stops_by_p2p [] = true
running_stops_by_p2p (Running ∷ rest) = stops_by_p2p rest && running_stops_by_p2p rest
running_stops_by_p2p (a ∷ rest) = running_stops_by_p2p rest
