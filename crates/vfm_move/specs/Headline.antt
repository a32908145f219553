-- What holds of a run that made a source: the journals are one legal run, the states are the plain machine's, and one
-- end has the machine, or neither.
use Rattle.std.specs.Prelude.{◌≡◌, slice_get, Some, None, IfSome, IsTrue, IsFalse}
use Rattle.std.specs.Option.{IsSomeAnd}
use Rattle.vfm_types.specs.declared.entry.Entry.TheVariants.{Resume}
use Rattle.vfm_types.specs.Requests.{plain}
use Rattle.vfm_types.specs.Deliveries.{delivers, before_joint}
use Rattle.vfm_types.specs.Phases.{is_aborted, is_failed}
use Rattle.vfm_plain.specs.Legal.{IsLegal}
use Rattle.vfm_plain.specs.Clean.{IsClean}
use Rattle.vfm_plain.specs.Ended as ended
use Rattle.vfm_plain.specs.Report.{Made, journal, past, source_past}
use Rattle.vfm_status.specs.declared.status.Status.{Status}
use Rattle.vfm_move.specs.Table.{Owner, TookOver, Neither, WentOn, owner_at}

-- The journals, joined, are one legal run of the described machine, in which no request reaches a stopped device: none is
-- delivered by one or into a BAR of one.
pub record IsOneRun (made : Made) : Type 0 where
  pub legal : IsLegal made.desc (past made)
  pub clean : IsClean made.desc (past made)

-- The printed states are the plain machine after what was delivered up to there: each request is done once, or stands
-- pending in the state.
pub record HasItsStates (made : Made) : Type 0 where
  pub joint : IfSome made.joint (λ m. plain made.desc (delivers (before_joint made.source)) ≡ Some m)
  pub final : IfSome made.final (λ m. plain made.desc (delivers (journal made)) ≡ Some m)

-- The source copied everything and neither gave up nor failed; the destination begins by taking over; and at the end
-- every device is RUNNING and idle.
pub record WasTakenOver (made : Made) : Type 0 where
  pub copied : IsTrue (ended.is_last_ended made.desc (source_past made))
  pub not_aborted : IsFalse (is_aborted (source_past made))
  pub not_failed : IsFalse (is_failed (source_past made))
  pub takes_over : IsSomeAnd made.destination (λ entries. slice_get entries 0 ≡ Some Resume)
  pub run_ended : IsTrue (ended.has_ended made.desc (past made))

-- The source copied everything and didn't give up, and no end runs: the destination's journal isn't there.
pub record IsInDoubt (made : Made) : Type 0 where
  pub copied : IsTrue (ended.is_last_ended made.desc (source_past made))
  pub not_aborted : IsFalse (is_aborted (source_past made))
  pub not_taken_over : made.destination ≡ None

-- The source gave up and ran to its end; the destination's journal isn't there.
pub record HasGoneOn (made : Made) : Type 0 where
  pub went_on : IsTrue (ended.went_on made.desc (source_past made))
  pub not_taken_over : made.destination ≡ None

-- who has the machine at the end
abbrev pub EndsWith : Owner → Made → Type 0
EndsWith TookOver made = WasTakenOver made
EndsWith Neither made = IsInDoubt made
EndsWith WentOn made = HasGoneOn made

-- what holds of a run that made a source
pub record IsSafeRun (status : Status) (made : Made) : Type 0 where
  pub run : IsOneRun made
  pub states : HasItsStates made
  pub owner : EndsWith (owner_at status) made
