-- The rounds of an offer: what they leave of the links, and why they end.
use Rattle.std.specs.Prelude.{◌≡◌, ℕ, ◌<◌, Bool, true, Option, None, List, length, map, slice_index_or, IsTrue, IsFalse}
use Rattle.vfm_types.specs.declared.desc.Desc.{Desc}
use Rattle.vfm_types.specs.declared.entry.Entry.{Entry}
use Rattle.vfm_types.specs.Phases.{is_failed, pass_count}
use Rattle.vfm_plain.specs.Ended.{is_last_ended}
use Rattle.vfm_order.specs.Coordinator.{is_abort_due}
use Rattle.vfm_core.specs.CoreState.{CoreState}
use Rattle.vfm_drive.specs.Runs.{left_in}
use Rattle.vfm_send.specs.declared.sender.Sender.{Sender}
use Rattle.vfm_send.specs.Sends.{has_failed}
use Rattle.vfm_outlets.specs.declared.outlets.Outlets.{Outlets}
use Rattle.vfm_outlets.specs.Carrying.{AllFare, FirstFailed, links_of}
use Rattle.vfm_source.specs.Moving.{past_in}
use Rattle.vfm_source.specs.declared.order.Turn.{Turn}
use Rattle.vfm_source.specs.declared.order.Turn.TheVariants as turns
use Rattle.vfm_source.specs.declared.rounds.Stop.{Stop}
use Rattle.vfm_source.specs.declared.rounds.Stop.TheVariants as stops

-- what links tell besides what they sent and whether they are finished
pub record LinkWords (L : Type 0) : Type 0 where
  pub failed_out : L → ℕ
  pub failed_in : L → ℕ
  pub received : L → Option (List ℕ)
  pub ended : L → Bool

-- by these words of theirs
abbrev pub words : {L : Type 0} → (L → ℕ) → (L → ℕ) → (L → Option (List ℕ)) → (L → Bool) → LinkWords L
words failed_out failed_in received ended = record { failed_out = failed_out; failed_in = failed_in; received = received; ended = ended }

-- There are as many links, and each tells of what comes in what it told before.
pub record HearAsBefore {L : Type 0} (words : LinkWords L) (before now : List L) : Type 0 where
  pub count : length now ≡ length before
  pub failed_in : map words.failed_in now ≡ map words.failed_in before
  pub received : map words.received now ≡ map words.received before
  pub ended : map words.ended now ≡ map words.ended before

-- From one moment to another each channel fares by its count, and no link heard anything.
pub record Leaves {L : Type 0} (words : LinkWords L) (before now : Outlets L) : Type 0 where
  pub count : length now.senders.items ≡ length before.senders.items
  pub fares : AllFare words.failed_out before now
  pub hear : HearAsBefore words (links_of before) (links_of now)

-- What is known where the rounds end, after these entries, newest first: that everything was copied, or that the source is
-- to give up.
abbrev pub Stops : Stop → Desc → ℕ → List Entry → Type 0
Stops stops.Done D abort_after past =
    IsTrue (is_last_ended D past) × IsFalse (is_failed past) × IsFalse (is_abort_due D past abort_after)
Stops stops.AbortDue D abort_after past = IsTrue (is_abort_due D past abort_after)
Stops stop D abort_after past = Unit {0}

-- no channel has failed, and nothing waits in one
abbrev pub AreSent : {L : Type 0} → Outlets L → Type 0
AreSent outlets = FirstFailed outlets.senders.items (length outlets.senders.items) None

-- some channel has failed
abbrev pub HasFailed : {L : Type 0} → Outlets L → Type 0
HasFailed {L} outlets =
    (k : ℕ) × (k < length outlets.senders.items) × ((d : Sender L) → has_failed (slice_index_or outlets.senders.items k d) ≡ true)

-- the rounds end for a link only where one has failed
abbrev pub StopsAtLink : {L : Type 0} → Stop → Outlets L → Type 0
StopsAtLink stops.LinkFault outlets = HasFailed outlets
StopsAtLink stop outlets = Unit {0}

-- an arc failed, if one did, before the pass began after which the source is to give up; 0 is for no pass
abbrev pub FailsEarly : ℕ → List Entry → Type 0
FailsEarly abort_after past = 0 < abort_after → IsTrue (is_failed past) → pass_count past < abort_after

-- What a turn of the coordinator tells behind the steps of the devices: that one of them made an entry, so that fewer are left;
-- or why there is nothing to be made.
abbrev pub TurnTells : Turn → CoreState → CoreState → ℕ → Type 0
TurnTells turns.Made old new abort_after = left_in new < left_in old
TurnTells turns.Waits old new abort_after = left_in new < left_in old
TurnTells turns.Done old new abort_after = Stops stops.Done new.desc abort_after (past_in new)
TurnTells turns.AbortDue old new abort_after = Stops stops.AbortDue new.desc abort_after (past_in new)

-- the rounds of a core ended so, with some pass after which the source was to give up, or none
pub record IsStopped (stop : Stop) (core : CoreState) : Type 0 where
  pub abort_after : ℕ
  pub stops : Stops stop core.desc abort_after (past_in core)
