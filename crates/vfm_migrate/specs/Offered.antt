-- The source's side of a move, once it has offered its machine over new links.
use Rattle.std.specs.Prelude.{◌≡◌, ℕ, ◌<◌, List, length, Option, None, Result, Ok, Err, IfSome, IsTrue, IsFalse, Contains, slice_get}
use Rattle.vfm_types.specs.declared.entry.Entry.TheVariants.{Fail}
use Rattle.vfm_types.specs.Deliveries.{joint_machine}
use Rattle.vfm_types.specs.Machine.{Machine}
use Rattle.vfm_types.specs.Phases.{is_failed}
use Rattle.vfm_outside.specs.Links.{Told}
use Rattle.vfm_core.specs.CoreState.{CoreState, FitsDesc, IsAfter}
use Rattle.vfm_order.specs.LookAfter.{is_over}
use Rattle.vfm_plain.specs.Ended.{is_last_ended}
use Rattle.vfm_plain.specs.Report.{Made, source_past}
use Rattle.vfm_plain.specs.StateText.{state_digest}
use Rattle.vfm_source.specs.declared.fault.OfferFault.{OfferFault}
use Rattle.vfm_source.specs.declared.fault.OfferFault.TheVariants as faults
use Rattle.vfm_source.specs.Moving.{past_in}
use Rattle.vfm_move.specs.Table.{Channels, Front, Whole}
use Rattle.vfm_move.specs.Carried.{HasSent}
use Rattle.vfm_move.specs.Causes.{FailedOut, has_passed}
use Rattle.vfm_move.specs.Move.{NoArcFailed, joint_in}

-- What a source has made so far, with the machine that the destination loaded, where that is to be printed.
abbrev pub made_so_far : CoreState → Option Machine → Made
made_so_far core loaded =
    record {
      desc = core.desc;
      source = core.entries;
      joint = joint_in core.desc (past_in core);
      loaded = loaded;
      destination = None;
      final = None;
    }

-- each channel has sent so much of what it is to send, where its link tells that
abbrev pub ChannelsSent : Channels → Made → List Told → Type 0
ChannelsSent channels made links = (k : ℕ)
    → IfSome (slice_get links k) (λ link. IfSome link.sent (HasSent channels made k))

-- how much that is after an offer
abbrev pub sent_after : {T : Type 0} → Result T OfferFault → Channels
sent_after (Ok value) = Whole
sent_after (Err fault) = Front

-- the pass hasn't ended after which the source is to give up; 0 is for no pass
abbrev pub NoneDue : ℕ → Made → Type 0
NoneDue abort_after made = 0 < abort_after → IsFalse (has_passed made.desc abort_after (source_past made))

-- it is the digest of the machine at the joint stop
abbrev pub IsOwnDigest : CoreState → List ℕ → Type 0
IsOwnDigest core digest = digest ≡ state_digest core.desc (joint_machine core.desc (past_in core))

-- Everything was copied, no arc failed, and no pass had ended after which the source was to give up; and this is its
-- digest.
pub record IsCopiedWhole (abort_after : ℕ) (core : CoreState) (digest : List ℕ) : Type 0 where
  pub copied : IsTrue (is_last_ended core.desc (past_in core))
  pub unfailed : IsFalse (is_failed (past_in core))
  pub none_due : NoneDue abort_after (made_so_far core None)
  pub own : IsOwnDigest core digest

-- why an offer ended as it did
abbrev pub OfferedFor : ℕ → CoreState → List Told → Result (List ℕ) OfferFault → Type 0
OfferedFor abort_after core links (Ok digest) = IsCopiedWhole abort_after core digest
OfferedFor abort_after core links (Err (faults.Link k)) = NoArcFailed (made_so_far core None) × FailedOut links k
OfferedFor abort_after core links (Err (faults.Aborted pass)) =
    NoArcFailed (made_so_far core None) × (abort_after ≡ pass) × (0 < pass)
    × IsTrue (has_passed core.desc pass (past_in core))
OfferedFor abort_after core links (Err (faults.ArcFailed d to)) =
    Contains (past_in core) (Fail d to) × NoneDue abort_after (made_so_far core None)
OfferedFor abort_after core links (Err faults.NoMemory) = Unit {0}

-- A source has offered its machine over new links, and was neither given up nor taken over.
pub record IsOffered (abort_after : ℕ) (core : CoreState) (links : List Told)
    (result : Result (List ℕ) OfferFault) : Type 0 where
  pub fits : FitsDesc core.desc core.world
  pub run : IsAfter core.desc (past_in core) core.world
  pub going : IsFalse (is_over (past_in core))
  pub channels : length links ≡ core.desc.channels
  pub sent : ChannelsSent (sent_after result) (made_so_far core None) links
  pub why : OfferedFor abort_after core links result
