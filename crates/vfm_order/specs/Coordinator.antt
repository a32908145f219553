-- What the laws of the order speak of: the coordinator's entries, when it is to give up, and when all is done.
use Rattle.std.specs.Prelude.{◌++◌, ◌≡◌, ◌≢◌, ℕ, ◌<◌, ◌&&◌, ◌||◌, not, Bool, true, false, nat_lt, nat_le, if◌then◌else◌, List, None, IsTrue}
use Rattle.vfm_types.specs.declared.desc.Desc.{Desc}
use Rattle.vfm_types.specs.declared.entry.Entry.{Entry}
use Rattle.vfm_types.specs.declared.entry.Entry.TheVariants.{Issue, Deliver, Complete, Abort, Resume}
use Rattle.vfm_types.specs.declared.state.MigState.TheVariants.{Running}
use Rattle.vfm_types.specs.Desc.{device_count}
use Rattle.vfm_types.specs.Phases.{is_on, is_joint, is_failed, is_last_begun, pass_count}
use Rattle.vfm_types.specs.Blocks.{is_no_pass_open}
use Rattle.vfm_types.specs.Words.{all_stand_in, is_idle}
use Rattle.vfm_types.specs.Valid.{IsValid}
use Rattle.vfm_plain.specs.Rules.{fault_of}
use Rattle.vfm_plain.specs.Legal.{is_entry_of, IsLegal}
use Rattle.vfm_order.specs.LookAfter.{is_over}

-- the entry is the coordinator's: all but those of requests are
abbrev pub is_coordinators : Entry → Bool
is_coordinators (Issue d n) = false
is_coordinators (Deliver d n) = false
is_coordinators (Complete d n) = false
is_coordinators entry = true

-- The entry may be made after a list: it names what the machine has, and meets its conditions.
abbrev pub MayMake : Desc → List Entry → Entry → Type 0
MayMake D past entry = IsTrue (is_entry_of D entry) × (fault_of D past entry ≡ None)

-- An arc failed; or the pass after which the source is to give up has begun, or a later one, and the newest has ended.
abbrev pub is_abort_due : Desc → List Entry → ℕ → Bool
is_abort_due D past abort_after =
    not (is_over past)
    && (is_failed past || (nat_lt 0 abort_after && nat_le abort_after (pass_count past) && is_no_pass_open D past))

-- The move is done: given up or taken over, with every device back in RUNNING; or else on, with its last pass made.
abbrev pub is_done : Desc → List Entry → Bool
is_done D past =
    if is_over past then all_stand_in D Running past
    else is_on past && is_joint past && is_last_begun past && is_no_pass_open D past

-- nothing can be done: no entry of the coordinator but Abort may be made, none is due, and the move isn't done
pub record IsStuck (D : Desc) (past : List Entry) (abort_after : ℕ) : Type 0 where
  pub barred : (entry : Entry) → IsTrue (is_coordinators entry) → entry ≢ Abort → MayMake D past entry → ⊥
  pub no_abort : is_abort_due D past abort_after ≡ false
  pub undone : is_done D past ≡ false

-- nothing is pending or outstanding at any device
abbrev pub AllIdle : Desc → List Entry → Type 0
AllIdle D past = (d : ℕ) → d < device_count D → IsTrue (is_idle D d past)

-- no request can move: none of the entries of requests may be made
abbrev pub AllStill : Desc → List Entry → Type 0
AllStill D past = (entry : Entry) → is_coordinators entry ≡ false → MayMake D past entry → ⊥

-- A destination's list stands on a source's after which the machine may be taken over, and both together are legal.
pub record IsStaged (D : Desc) (before mine : List Entry) : Type 0 where
  pub valid : IsValid D
  pub whole : fault_of D before Resume ≡ None
  pub legal : IsLegal D (mine ++ before)
