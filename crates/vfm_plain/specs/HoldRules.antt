-- When a device may be held for a state: from then on it issues what that state allows and nothing more.
use Rattle.std.specs.Prelude.{Bool, List, [], is_none, not, ℕ, ◌&&◌, ◌||◌, ◌∷◌}
use Rattle.vfm_types.specs.declared.state.MigState.{MigState}
use Rattle.vfm_types.specs.declared.state.MigState.TheVariants.{Stop, StopCopy}
use Rattle.vfm_types.specs.declared.entry.Entry.{Entry}
use Rattle.vfm_types.specs.declared.entry.Rule.TheVariants.{Decide, Order, Path, Quiet}
use Rattle.vfm_types.specs.declared.desc.Desc.{Desc}
use Rattle.vfm_types.specs.Paths.{same_state}
use Rattle.vfm_types.specs.Phases.{is_joint, is_on}
use Rattle.vfm_types.specs.Arcs.{hold_of, is_stopped, state_of}
use Rattle.vfm_types.specs.Words.{is_decided, is_next_towards, is_quiet}
use Rattle.vfm_plain.specs.Condition.{Condition}

-- device d may be held: the move is on, not every device was found in STOP_COPY, and d has no hold
abbrev pub may_be_held : ℕ → List Entry → Bool
may_be_held d past = is_on past && not (is_joint past) && is_none (hold_of d past)

-- the state is the next one of device d, which isn't stopped, on its way to STOP_COPY
abbrev pub is_next_to_stop_copy : Desc → ℕ → MigState → List Entry → Bool
is_next_to_stop_copy D d to past = not (is_stopped (state_of d past)) && is_next_towards D d StopCopy to past

-- quiet enough for a hold: a device is held for STOP or STOP_COPY only where the others are quiet
abbrev pub is_quiet_for_hold : Desc → MigState → List Entry → Bool
is_quiet_for_hold D to past = not (same_state to Stop || same_state to StopCopy) || is_quiet D past

-- the conditions, in the order in which they are tested
abbrev pub hold_conditions : Desc → ℕ → MigState → List Entry → List Condition
hold_conditions D d to past =
    (may_be_held d past, Order) ∷ (is_decided D past, Decide) ∷ (is_next_to_stop_copy D d to past, Path)
    ∷ (is_quiet_for_hold D to past, Quiet) ∷ []
