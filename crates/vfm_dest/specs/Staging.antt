-- What staging answers, by what came of the links in the call.
use Rattle.std.specs.Prelude.{◌≡◌, ℕ, ◌+◌, ◌<◌, ◌≤◌, ◌⊎◌, true, false, is_some, List, [], length, map, All, slice_index_or, vec_capacity, Result, Ok, Err}
use Rattle.vfm_types.specs.declared.desc.Desc.{Desc}
use Rattle.vfm_types.specs.Desc.{device_count}
use Rattle.vfm_types.specs.Machine.{Machine}
use Rattle.vfm_outside.specs.Counts.{Rose}
use Rattle.vfm_outside.specs.Told.{with_appended}
use Rattle.vfm_packet.specs.declared.answer.Expect.{Expect}
use Rattle.vfm_packet.specs.Channel.{channel_limit}
use Rattle.vfm_streams.specs.Verdict.{Expects, Verdict, Refuses, Loads, verdict}
use Rattle.vfm_mesh.specs.Meshes.{AreMesh, given_at, taken_at}
use Rattle.vfm_intake.specs.Intakes.{AreStreamsOf, StandAfter}
use Rattle.vfm_stream_work.specs.declared.worker.StreamWorker.{StreamWorker}
use Rattle.vfm_stream_work.specs.Workers.{funnel_of, intake_of, is_short}
use Rattle.vfm_dest.specs.Crews.{HasPlaces, HasPlacesOfStreams}
use Rattle.vfm_dest.specs.StagedCores.{StagedState}
use Rattle.vfm_dest.specs.declared.judging.StageFault.{StageFault}
use Rattle.vfm_dest.specs.declared.judging.StageFault.TheVariants as faults
use Rattle.vfm_dest.specs.declared.ready.Ready.{Ready}
use Rattle.vfm_dest.specs.Heards.{Told, untold}
use Rattle.vfm_dest.specs.Stages.{IsVerdictLoaded}

-- the workers of all streams of a description, before they work
pub record AreHired (D : Desc) (workers : List StreamWorker) : Type 0 where
  pub streams : length workers ≡ device_count D + 1
  pub made : AreStreamsOf D (map intake_of workers)
  pub nothing : StandAfter D (λ s. []) (map intake_of workers)
  pub taken : (k s : ℕ) → taken_at (map funnel_of workers) k s ≡ []
  pub short : All (λ w. is_short w ≡ false) workers

-- all is ready to read the channels of a description
pub record IsReadyFor {L : Type 0} (D : Desc) (ready : Ready L) : Type 0 where
  pub hired : AreHired D ready.streams.items
  pub mesh : AreMesh ready.fans.items (map funnel_of ready.streams.items)
  pub fans : length ready.fans.items ≡ D.channels
  pub given : (k s : ℕ) → given_at ready.fans.items k s ≡ []
  pub no_channels : ready.channels.items ≡ []
  pub channels_room : D.channels ≤ vec_capacity ready.channels
  pub heard : HasPlaces D.channels ready.heard
  pub left : HasPlacesOfStreams (device_count D + 1) ready.taken

-- what the links tell before a call and after it
pub record Links : Type 0 where
  pub before : List Told
  pub now : List Told

-- link k before the call, and after it
abbrev pub before_at : Links → ℕ → Told
before_at links k = slice_index_or links.before k untold

abbrev pub now_at : Links → ℕ → Told
now_at links k = slice_index_or links.now k untold

-- These bytes came of the links in the call, where they tell what comes.
pub record HaveBrought (links : Links) (came : List (List ℕ)) : Type 0 where
  pub count : length came ≡ length links.before
  pub each : (k : ℕ) → k < length links.before
      → (now_at links k).received ≡ with_appended (before_at links k).received (slice_index_or came k [])

-- link k gave more bytes in the call than a channel may have, where it tells what comes
pub record HasPassed (links : Links) (k : ℕ) : Type 0 where
  pub came : List ℕ
  pub received : (now_at links k).received ≡ with_appended (before_at links k).received came
  pub many : channel_limit < length came

-- the end of link k was received, or it gave more bytes than a channel may have
abbrev pub HasEndedOrPassed : Links → ℕ → Type 0
HasEndedOrPassed links k = ((now_at links k).ended ≡ true) ⊎ HasPassed links k

-- link k was read out, and didn't fail
pub record IsReadOut (links : Links) (k : ℕ) : Type 0 where
  pub stopped : HasEndedOrPassed links k
  pub sound : (now_at links k).failed_in ≡ (before_at links k).failed_in

-- the first n links were
abbrev pub AreReadOut : Links → ℕ → Type 0
AreReadOut links n = (k : ℕ) → k < n → IsReadOut links k

-- there is a link k, and the count of its failed receipts rose in the call
abbrev pub FailedIn : Links → ℕ → Type 0
FailedIn links k = (k < length links.before) × Rose (before_at links k).failed_in (now_at links k).failed_in

-- ---- what an answer says

-- the staged machine is the one that loads by the verdict, and a refusal is the verdict's
abbrev pub SaysVerdict : Desc → Verdict → Result StagedState StageFault → Type 0
SaysVerdict D verdict (Ok staged) = IsVerdictLoaded D verdict staged
SaysVerdict D verdict (Err (faults.Refusal refusal)) = verdict ≡ Refuses refusal
SaysVerdict D verdict (Err fault) = Unit {0}

-- bytes came, and the answer says the verdict on them, as the description expects them
pub record IsJudged (D : Desc) (links : Links) (result : Result StagedState StageFault) : Type 0 where
  pub came : List (List ℕ)
  pub brought : HaveBrought links came
  pub expect : Expect
  pub expects : Expects D expect
  pub says : SaysVerdict D (verdict D expect came) result

-- where memory didn't run out; else nothing is said
abbrev pub Judges : Desc → Links → Result StagedState StageFault → Type 0
Judges D links (Err faults.NoMemory) = Unit {0}
Judges D links result = IsJudged D links result

-- which links were read out
abbrev pub ReadsOut : Links → Result StagedState StageFault → Type 0
ReadsOut links (Ok staged) = AreReadOut links (length links.before)
ReadsOut links (Err (faults.Refusal refusal)) = AreReadOut links (length links.before)
ReadsOut links (Err (faults.Link k)) = AreReadOut links k
ReadsOut links (Err faults.NoMemory) = Unit {0}

-- which link failed
abbrev pub NamesFailed : Links → Result StagedState StageFault → Type 0
NamesFailed links (Err (faults.Link k)) = FailedIn links k
NamesFailed links result = Unit {0}

-- all that an answer says
pub record IsStagedBy (D : Desc) (links : Links) (result : Result StagedState StageFault) : Type 0 where
  pub verdict : Judges D links result
  pub read_out : ReadsOut links result
  pub failed : NamesFailed links result

-- ---- what the bytes that came decide, where every link tells them

-- every link tells what comes
abbrev pub AllTell : Links → Type 0
AllTell links = (k : ℕ) → k < length links.before → is_some (before_at links k).received ≡ true

-- no link failed in the call
abbrev pub NoneFailed : Links → Type 0
NoneFailed links = (k : ℕ) → FailedIn links k → ⊥

-- by every reading of what the description expects, these bytes load a machine
abbrev pub AreWhole : Desc → List (List ℕ) → Type 0
AreWhole D came = (e : Expect) → Expects D e → (m : Machine) × (verdict D e came ≡ Loads m)

-- the answer is the verdict on these bytes, want of memory aside
abbrev pub IsVerdictOn : Desc → List (List ℕ) → Result StagedState StageFault → Type 0
IsVerdictOn D came (Err faults.NoMemory) = Unit {0}
IsVerdictOn D came result = (e : Expect) × Expects D e × SaysVerdict D (verdict D e came) result

-- the answer is a staged machine, or that memory ran out
abbrev pub IsStagedOrShort : Result StagedState StageFault → Type 0
IsStagedOrShort (Ok staged) = Unit {0}
IsStagedOrShort (Err faults.NoMemory) = Unit {0}
IsStagedOrShort (Err fault) = ⊥
