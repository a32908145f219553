-- The refusals, in the order in which they come.
use Rattle.std.specs.Prelude.{◌≡◌, ◌≢◌, ◌↔◌, ℕ, IsTrue, IsFalse, Bool, true, false, Option, Some, None, Result, Ok, Err}
use Rattle.vfm_types.specs.declared.state.MigState.{MigState}
use Rattle.vfm_types.specs.declared.state.MigState.TheVariants.{Error, StopCopy, PreCopy, PreCopyP2p}
use Rattle.vfm_types.specs.declared.state.PathFault.{PathFault}
use Rattle.vfm_types.specs.declared.state.PathFault.TheVariants.{Unsupported, Forbidden, FromError}
use Rattle.vfm_types.specs.Paths.{supports}

-- the refusal that an answer is, if it is one
abbrev pub refusal_in : {A : Type 0} → Result A PathFault → Option PathFault
refusal_in (Ok _) = None
refusal_in (Err fault) = Some fault

-- out of STOP_COPY into PRE_COPY or PRE_COPY_P2P: data that is read to its end can't be read from its beginning again
abbrev pub reads_again : MigState → MigState → Bool
reads_again StopCopy PreCopy = true
reads_again StopCopy PreCopyP2p = true
reads_again _ _ = false

-- each refusal comes exactly where no earlier one does, and none otherwise
pub record RefusesInOrder (from to : MigState) (bits : ℕ) (refusal : Option PathFault) : Type 0 where
  pub from_error : (refusal ≡ Some FromError) ↔ (from ≡ Error)
  pub to_error : from ≢ Error → to ≡ Error → refusal ≡ Some (Forbidden from to)
  pub from_unsupported : from ≢ Error → to ≢ Error → IsFalse (supports bits from) → refusal ≡ Some (Unsupported from)
  pub to_unsupported : from ≢ Error → to ≢ Error → IsTrue (supports bits from) → IsFalse (supports bits to) → refusal ≡ Some (Unsupported to)
  pub read_again : IsTrue (reads_again from to) → IsTrue (supports bits to) → refusal ≡ Some (Forbidden from to)
  pub answered : from ≢ Error → to ≢ Error → IsTrue (supports bits from) → IsTrue (supports bits to) → IsFalse (reads_again from to) → refusal ≡ None
