-- What entries say of the move as a whole and of one device, each as one record, and what one more entry makes of it.
-- Whoever keeps such a record beside its entries relates the old one to the new one by these two definitions.
use Rattle.std.specs.Prelude.{ℕ, ◌+◌, ◌==◌, Bool, true, false, if◌then◌else◌, List, Option, Some, None}
use Rattle.vfm_types.specs.declared.state.MigState.{MigState}
use Rattle.vfm_types.specs.declared.state.MigState.TheVariants.{Resuming}
use Rattle.vfm_types.specs.declared.entry.Entry.{Entry}
use Rattle.vfm_types.specs.declared.entry.Entry.TheVariants.{Hold, Arc, Fail, Begin, Joint, Abort, Resume}
use Rattle.vfm_types.specs.Phases.{is_begun, is_joint, is_aborted, is_failed, is_resumed}
use Rattle.vfm_types.specs.Arcs.{state_of, hold_of, arc_count}

-- how far the move as a whole has come
pub record MoveFacts : Type 0 where
  pub begun : Bool
  pub joint : Bool
  pub aborted : Bool
  pub failed : Bool
  pub resumed : Bool

abbrev pub move_facts : List Entry → MoveFacts
move_facts past =
    record {
      begun = is_begun past;
      joint = is_joint past;
      aborted = is_aborted past;
      failed = is_failed past;
      resumed = is_resumed past;
    }

-- what an entry makes of that
abbrev pub move_facts_after : Entry → MoveFacts → MoveFacts
move_facts_after Begin facts = record facts { begun = true }
move_facts_after Joint facts = record facts { joint = true }
move_facts_after Abort facts = record facts { aborted = true; failed = false }
move_facts_after (Fail d to) facts = record facts { failed = true }
move_facts_after Resume facts = record facts { resumed = true }
move_facts_after entry facts = facts

-- the entry touches none of these facts
abbrev pub is_beside_move : Entry → Bool
is_beside_move Begin = false
is_beside_move Joint = false
is_beside_move Abort = false
is_beside_move (Fail d to) = false
is_beside_move Resume = false
is_beside_move entry = true

-- where a device stands: its state, what it is held for, and how many arcs it took
pub record DeviceFacts : Type 0 where
  pub state : MigState
  pub hold : Option MigState
  pub arcs : ℕ

abbrev pub device_facts : ℕ → List Entry → DeviceFacts
device_facts d past = record { state = state_of d past; hold = hold_of d past; arcs = arc_count d past }

-- what an entry makes of where device d stands
abbrev pub device_facts_after : ℕ → Entry → DeviceFacts → DeviceFacts
device_facts_after d (Hold e to) facts = if e == d then record facts { hold = Some to } else facts
device_facts_after d (Arc e to) facts =
    if e == d then record { state = to; hold = None; arcs = facts.arcs + 1 } else facts
device_facts_after d (Fail e to) facts = if e == d then record facts { arcs = facts.arcs + 1 } else facts
device_facts_after d Abort facts = record facts { hold = None }
device_facts_after d Resume facts = record facts { state = Resuming }
device_facts_after d entry facts = facts

-- the entry touches none of the facts of device d
abbrev pub is_beside_device : ℕ → Entry → Bool
is_beside_device d (Hold e to) = if e == d then false else true
is_beside_device d (Arc e to) = if e == d then false else true
is_beside_device d (Fail e to) = if e == d then false else true
is_beside_device d Abort = false
is_beside_device d Resume = false
is_beside_device d entry = true
