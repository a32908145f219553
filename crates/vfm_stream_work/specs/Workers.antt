-- What the worker of a stream did.
use Rattle.std.specs.Prelude.{◌≡◌, ℕ, Bool, true, false, List, [], ◌∷◌, ◌++◌}
use Rattle.vfm_types.specs.declared.desc.Desc.{Desc}
use Rattle.vfm_packet.specs.Packet.{Packet}
use Rattle.vfm_mesh.specs.declared.parcel.Parcel.{Parcel}
use Rattle.vfm_mesh.specs.declared.funnel.Funnel.{Funnel}
use Rattle.vfm_mesh.specs.Rows.{funnel_rings, taken}
use Rattle.vfm_intake_laws.specs.Arrivals.{of_channel}
use Rattle.vfm_intake.specs.declared.stream.StreamIntake.{StreamIntake}
use Rattle.vfm_intake.specs.Streams.{stream_in, IsStreamOf, StandsAfter}
use Rattle.vfm_stream_work.specs.declared.worker.StreamWorker.{StreamWorker}
use Rattle.vfm_stream_work.specs.Parcels.{packets_in, untagged}

-- its funnel
abbrev pub funnel_of : StreamWorker → Funnel
funnel_of worker = worker.funnel

-- its intake
abbrev pub intake_of : StreamWorker → StreamIntake
intake_of worker = worker.intake

-- whether memory ran out
abbrev pub is_short : StreamWorker → Bool
is_short worker = worker.is_short

-- these packets more came to the intake
abbrev pub HasCome : Desc → List Packet → StreamIntake → StreamIntake → Type 0
HasCome D more before now =
    (came : List Packet) → StandsAfter before D (stream_in before) came → StandsAfter now D (stream_in before) (came ++ more)

-- parcels were taken out of the funnel, those of each channel in its order, and their packets came to the intake
pub record Passes (D : Desc) (before now : StreamWorker) : Type 0 where
  pub tagged : List (ℕ × Packet)
  pub each : (k : ℕ) → packets_in (taken now.funnel k) ≡ packets_in (taken before.funnel k) ++ of_channel k tagged
  pub come : HasCome D (untagged tagged) before.intake now.intake

-- The worker went on: its stream and its rings are the same, and where memory didn't run out, what was taken came to the
-- intake.
pub record HasWorked (D : Desc) (before now : StreamWorker) : Type 0 where
  pub made : IsStreamOf now.intake D (stream_in before.intake)
  pub stream : stream_in now.intake ≡ stream_in before.intake
  pub rings : funnel_rings now.funnel ≡ funnel_rings before.funnel
  pub passes : now.is_short ≡ false → before.is_short ≡ false → Passes D before now
  pub short : before.is_short ≡ true → now.is_short ≡ true

-- a parcel was given to the intake: its packet came, where memory didn't run out
pub record HasGiven (D : Desc) (parcel : Parcel) (before now : StreamWorker) : Type 0 where
  pub made : IsStreamOf now.intake D (stream_in before.intake)
  pub stream : stream_in now.intake ≡ stream_in before.intake
  pub come : now.is_short ≡ false → HasCome D (packets_in (parcel ∷ [])) before.intake now.intake
  pub short : before.is_short ≡ true → now.is_short ≡ true
