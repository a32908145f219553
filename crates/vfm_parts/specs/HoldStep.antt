-- Hold on the parts: the coordinator's, and every device's.
use Rattle.std.specs.Prelude.{ℕ, ◌&&◌, ◌||◌, not, is_none, Bool, List, [], ◌∷◌, Some}
use Rattle.vfm_types.specs.declared.state.MigState.{MigState}
use Rattle.vfm_types.specs.declared.state.MigState.TheVariants.{Stop, StopCopy}
use Rattle.vfm_types.specs.declared.entry.Rule.TheVariants.{Decide, Order, Path, Quiet}
use Rattle.vfm_types.specs.declared.desc.Desc.{Desc}
use Rattle.vfm_types.specs.Paths.{same_state}
use Rattle.vfm_types.specs.Arcs.{is_stopped}
use Rattle.vfm_plain.specs.Condition.{Condition}
use Rattle.vfm_parts.specs.Parts.{Dev, Lead}
use Rattle.vfm_parts.specs.PartWords.{is_on_in, is_decided_in, is_next_towards_in, is_quiet_in}

-- the device may be held: the move is on, not every device was found in STOP_COPY, and it has no hold
abbrev pub may_be_held_in : Lead → Dev → Bool
may_be_held_in lead dev = is_on_in lead && not lead.joint && is_none dev.hold

-- the state is the next one of device d, which isn't stopped, on its way to STOP_COPY
abbrev pub is_next_to_stop_copy_in : Desc → ℕ → MigState → Dev → Bool
is_next_to_stop_copy_in D d to dev = not (is_stopped dev.state) && is_next_towards_in D d StopCopy to dev

-- quiet enough for a hold
abbrev pub is_quiet_for_hold_in : Desc → MigState → (ℕ → Dev) → Bool
is_quiet_for_hold_in D to devs = not (same_state to Stop || same_state to StopCopy) || is_quiet_in D devs

-- the conditions, in the order in which they are tested
abbrev pub hold_conditions_in : Desc → ℕ → MigState → Lead → (ℕ → Dev) → List Condition
hold_conditions_in D d to lead devs =
    (may_be_held_in lead (devs d), Order) ∷ (is_decided_in D lead, Decide) ∷ (is_next_to_stop_copy_in D d to (devs d), Path)
    ∷ (is_quiet_for_hold_in D to devs, Quiet) ∷ []

-- the device held for a state
abbrev pub held_dev : MigState → Dev → Dev
held_dev to dev = record dev { hold = Some to }
