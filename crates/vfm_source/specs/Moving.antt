-- A source on its move: the run that it made, and what its channels carry of it.
use Rattle.std.specs.Prelude.{◌≡◌, ℕ, Bool, true, false, if◌then◌else◌, Option, None, Some, List, ◌∷◌, reverse}
use Rattle.vfm_types.specs.declared.desc.Desc.{Desc}
use Rattle.vfm_types.specs.declared.entry.Entry.{Entry}
use Rattle.vfm_types.specs.declared.entry.Entry.TheVariants.{Abort, Joint}
use Rattle.vfm_types.specs.Deliveries.{joint_machine}
use Rattle.vfm_types.specs.Machine.{Machine}
use Rattle.vfm_types.specs.Phases.{is_joint}
use Rattle.vfm_plain.specs.Shape.{HasShape}
use Rattle.vfm_quiet.specs.declared.want.Want.{Want}
use Rattle.vfm_quiet.specs.declared.want.Want.TheVariants.{Do, Wait, Done}
use Rattle.vfm_order.specs.LookAfter.{is_over}
use Rattle.vfm_core.specs.CoreState.{CoreState, IsAfter}
use Rattle.vfm_drive.specs.Runs.{want_on}
use Rattle.vfm_streams.specs.Sent.{sent_in_passes}
use Rattle.vfm_outlets.specs.declared.outlets.Outlets.{Outlets}
use Rattle.vfm_outlets.specs.Carrying.{Carries}
use Rattle.vfm_source.specs.declared.order.Turn.{Turn}
use Rattle.vfm_source.specs.declared.order.Turn.TheVariants as turns

-- the run that was made, newest entry first, and what each channel had sent when the move began
pub record Course : Type 0 where
  pub past : List Entry
  pub starts : List (Option (List ℕ))

-- The core stands for such a run, which is legal, and the channels carry what its passes sent.
pub record Conveys {L : Type 0} (sent : L → Option (List ℕ)) (course : Course) (core : CoreState) (outlets : Outlets L) : Type 0 where
  pub run : IsAfter core.desc course.past core.world
  pub carries : Carries sent core.desc course.starts (sent_in_passes core.desc course.past) outlets

-- they do of some run
pub record IsConveying {L : Type 0} (sent : L → Option (List ℕ)) (core : CoreState) (outlets : Outlets L) : Type 0 where
  pub course : Course
  pub conveys : Conveys sent course core outlets

-- with one entry more
abbrev pub then_made : Entry → Course → Course
then_made entry course = record course { past = entry ∷ course.past }

-- the channels carry what these passes sent and what such an entry sends, which is yet to be made
abbrev pub CarriesNext : {L : Type 0} → (L → Option (List ℕ)) → Course → CoreState → Outlets L → Type 0
CarriesNext sent course core outlets = Carries sent core.desc course.starts (sent_in_passes core.desc course.past) outlets

-- the entries that a core made, newest first
abbrev pub past_in : CoreState → List Entry
past_in core = reverse core.entries

-- all that a core made, with what each channel had sent before
abbrev pub course_in : List (Option (List ℕ)) → CoreState → Course
course_in starts core = record { past = past_in core; starts = starts }

-- once the joint stop was reached, the machine there is this one
abbrev pub KeepsJoint : Desc → List Entry → Machine → Type 0
KeepsJoint D past joint = is_joint past ≡ true → joint ≡ joint_machine D past

-- The source is under way, and was neither given up nor taken over: its parts are those of the run that it made, and it keeps
-- the machine at the joint stop.
pub record IsUnderWay (joint : Machine) (core : CoreState) : Type 0 where
  pub run : IsAfter core.desc (past_in core) core.world
  pub keeps : KeepsJoint core.desc (past_in core) joint
  pub shape : HasShape core.desc joint
  pub going : is_over (past_in core) ≡ false

-- And its channels carry what its passes sent, after what each had sent at the start.
pub record IsMoving {L : Type 0} (sent : L → Option (List ℕ)) (starts : List (Option (List ℕ))) (joint : Machine) (core : CoreState)
    (outlets : Outlets L) : Type 0 where
  pub way : IsUnderWay joint core
  pub carries : Carries sent core.desc starts (sent_in_passes core.desc (past_in core)) outlets

-- it is, whatever its channels had sent at the start
pub record IsOnMove {L : Type 0} (sent : L → Option (List ℕ)) (joint : Machine) (core : CoreState) (outlets : Outlets L) : Type 0 where
  pub starts : List (Option (List ℕ))
  pub moving : IsMoving sent starts joint core outlets

-- the machine that is kept of the joint stop once this entry was made: at Joint the one that there is now
abbrev pub kept_at : Entry → Machine → Machine → Machine
kept_at Joint now kept = now
kept_at entry now kept = kept

-- the order wants this entry next, with some pass after which the source is to give up, or none
pub record IsWanted (core : CoreState) (entry : Entry) : Type 0 where
  pub abort_after : ℕ
  pub want : want_on core.desc None (past_in core) abort_after ≡ Do entry

-- the entry is Abort
abbrev pub is_abort : Entry → Bool
is_abort Abort = true
is_abort entry = false

-- what the coordinator does where this is wanted: it leaves Abort to be made by the one who gives up
abbrev pub turn_of : Want → Turn
turn_of (Do entry) = if is_abort entry then turns.AbortDue else turns.Made
turn_of Wait = turns.Waits
turn_of Done = turns.Done

-- and the entry that it makes
abbrev pub entry_made : Want → Option Entry
entry_made (Do entry) = if is_abort entry then None else Some entry
entry_made Wait = None
entry_made Done = None
