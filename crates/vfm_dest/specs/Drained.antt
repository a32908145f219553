-- What is taken out of a mesh, stream by stream.
use Rattle.std.specs.Prelude.{◌≡◌, ℕ, ◌<◌, ◌≤◌, ◌==◌, if◌then◌else◌, List, [], ◌++◌}
use Rattle.vfm_types.specs.declared.desc.Desc.{Desc}
use Rattle.vfm_types.specs.Desc.{device_count}
use Rattle.vfm_packet.specs.Packet.{Packet}
use Rattle.vfm_mesh.specs.declared.funnel.Funnel.{Funnel}
use Rattle.vfm_mesh.specs.declared.rest.Rest.{Rest}
use Rattle.vfm_mesh.specs.Meshes.{channels_left, left, taken_at}
use Rattle.vfm_intake_laws.specs.Arrivals.{of_channel}
use Rattle.vfm_intake.specs.declared.intake.Intake.{Intake}
use Rattle.vfm_intake.specs.declared.stream.StreamIntake.{StreamIntake}
use Rattle.vfm_intake.specs.Intakes.{StandAfter, HasTaken}
use Rattle.vfm_stream_work.specs.Parcels.{packets_in, untagged}

-- more of stream s
abbrev pub with_more : {X : Type 0} → (ℕ → List X) → ℕ → List X → ℕ → List X
with_more came s more t = if t == s then came t ++ more else came t

-- What was taken out of the funnels of a mesh came to the intakes of the streams, and nothing else: of each stream these
-- packets, those of each channel in its order.
pub record HasLoaded (D : Desc) (funnels : List Funnel) (intakes : List StreamIntake) : Type 0 where
  pub tagged : ℕ → List (ℕ × Packet)
  pub came : StandAfter D (λ s. untagged (tagged s)) intakes
  pub each : (k s : ℕ) → s ≤ device_count D → of_channel k (tagged s) ≡ packets_in (taken_at funnels k s)

-- the packets are all that was left of stream s in the mesh, those of each channel in its order
pub record AreLeft (rest : Rest) (s : ℕ) (tagged : List (ℕ × Packet)) : Type 0 where
  pub each : (k : ℕ) → k < channels_left rest → of_channel k tagged ≡ packets_in (left rest k s)
  pub none : (k : ℕ) → channels_left rest ≤ k → of_channel k tagged ≡ []

-- some parcels of stream s were taken out of the mesh into an intake, those of each channel in its order
pub record Moves (D : Desc) (s : ℕ) (before now : Rest) (from to : Intake) : Type 0 where
  pub tagged : List (ℕ × Packet)
  pub each : (k : ℕ) → packets_in (left before k s) ≡ of_channel k tagged ++ packets_in (left now k s)
  pub none : (k : ℕ) → channels_left before ≤ k → of_channel k tagged ≡ []
  pub others : (k t : ℕ) → (t ≡ s → ⊥) → left now k t ≡ left before k t
  pub taken : (came : ℕ → List Packet) → HasTaken from D came → HasTaken to D (with_more came s (untagged tagged))

-- these packets more of each stream
abbrev pub with_all : (ℕ → List Packet) → (ℕ → List (ℕ × Packet)) → ℕ → List Packet
with_all came tagged s = came s ++ untagged (tagged s)

-- all that was left of every stream was taken into an intake, behind what had come to it
pub record HasDrained (D : Desc) (rest : Rest) (from to : Intake) : Type 0 where
  pub tagged : ℕ → List (ℕ × Packet)
  pub taken : (came : ℕ → List Packet) → HasTaken from D came → HasTaken to D (with_all came tagged)
  pub each : (s : ℕ) → s ≤ device_count D → AreLeft rest s (tagged s)

-- the same of the streams below n; the others are left as they were
pub record HasDrainedBelow (D : Desc) (n : ℕ) (before now : Rest) (from to : Intake) : Type 0 where
  pub tagged : ℕ → List (ℕ × Packet)
  pub taken : (came : ℕ → List Packet) → HasTaken from D came → HasTaken to D (with_all came tagged)
  pub each : (s : ℕ) → s < n → AreLeft before s (tagged s)
  pub none : (s : ℕ) → n ≤ s → tagged s ≡ []
  pub still : (k s : ℕ) → n ≤ s → left now k s ≡ left before k s
