-- A round: a step of each device that has one, then one of the coordinator.
use Rattle.std.specs.Prelude.{◌≡◌, ℕ, zero, suc, List, ◌∷◌, Option, None, Some}
use Rattle.vfm_types.specs.declared.entry.Entry.{Entry}
use Rattle.vfm_types.specs.declared.desc.Desc.{Desc}
use Rattle.vfm_types.specs.Desc.{device_count}
use Rattle.vfm_parts.specs.Parts.{dev_at}
use Rattle.vfm_parts.specs.Steps.{after_on}
use Rattle.vfm_device_part.specs.Pick.{enabled_steps, picked}
use Rattle.vfm_quiet.specs.declared.want.Want.{Want}
use Rattle.vfm_quiet.specs.declared.want.Want.TheVariants.{Do, Wait, Done}
use Rattle.vfm_order.specs.Coordinator.{AllStill}
use Rattle.vfm_core.specs.CoreState.{CoreState, with_entry}
use Rattle.vfm_drive.specs.Runs.{IsOn, want_on, whole}

-- a core that has made this entry, if there is one
abbrev pub with_made : Option Entry → CoreState → CoreState
with_made None core = core
with_made (Some entry) core = with_entry entry (after_on core.desc core.world entry) core

-- a list with this entry before it, if there is one
abbrev pub made_on : Option Entry → List Entry → List Entry
made_on None mine = mine
made_on (Some entry) mine = entry ∷ mine

-- the first of the steps that device d may make, if it may make one
abbrev pub first_step : ℕ → CoreState → Option Entry
first_step d core = picked (enabled_steps core.desc d (dev_at core.world d)) 0

-- Each of the n first devices that has a step made its first one, in rising order, each on the core as the step before
-- left it.
abbrev pub devices_stepped : ℕ → CoreState → CoreState
devices_stepped zero core = core
devices_stepped (suc d) core =
    let before = devices_stepped d core in
    with_made (first_step d before) before

-- so did all devices
abbrev pub all_stepped : CoreState → CoreState
all_stepped core = devices_stepped (device_count core.desc) core

-- the entry that is wanted, if there is one
abbrev pub entry_wanted : Want → Option Entry
entry_wanted (Do entry) = Some entry
entry_wanted Wait = None
entry_wanted Done = None

-- A round from one core to another: all devices stepped, then the coordinator made what the order wants after that.
pub record IsRound (old new : CoreState) (abort_after : ℕ) : Type 0 where
  pub want : Want
  pub made : new ≡ with_made (entry_wanted want) (all_stepped old)
  pub order : (origin : Option (List Entry)) (mine : List Entry) → IsOn old.desc origin mine (all_stepped old).world
      → want ≡ want_on old.desc origin mine abort_after

-- so many rounds, one after another, from one core to another
abbrev pub AreRounds : ℕ → CoreState → CoreState → ℕ → Type 0
AreRounds zero old new abort_after = new ≡ old
AreRounds (suc n) old new abort_after = (mid : CoreState) × AreRounds n old mid abort_after × IsRound mid new abort_after

-- rounds alone, from one core to another
pub record ByRounds (old new : CoreState) (abort_after : ℕ) : Type 0 where
  pub count : ℕ
  pub rounds : AreRounds count old new abort_after

-- nothing is left to be made: no request can move, and for the order all is done
pub record IsAtEnd (D : Desc) (origin : Option (List Entry)) (mine : List Entry) (abort_after : ℕ) : Type 0 where
  pub still : AllStill D (whole origin mine)
  pub done : want_on D origin mine abort_after ≡ Done
