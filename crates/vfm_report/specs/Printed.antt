-- Which states and journals a report can have: the pages, BARs and buffers have their sizes, and numbers are below
-- their counts or in the ranges of their types.
use Rattle.std.specs.Prelude.{◌≡◌, ℕ, zero, suc, ◌+◌, ◌<◌, ◌^◌, List, [], ◌∷◌, length, Option, Some, None, IsTrue}
use Rattle.hex.specs.Hex.{IsBytes}
use Rattle.vfm_types.specs.declared.entry.Entry.{Entry}
use Rattle.vfm_types.specs.Entry.{entry_fits}
use Rattle.vfm_types.specs.declared.desc.Desc.{Desc}
use Rattle.vfm_types.specs.Desc.{device_count, shape_at, bar_bytes}
use Rattle.vfm_types.specs.Machine.{DeviceState, Machine}
use Rattle.vfm_plain.specs.Legal.{is_entry_of}
use Rattle.vfm_plain.specs.Report.{Made}

-- each of these is one
abbrev pub Each : {X : Type 0} → (X → Type 0) → List X → Type 0
Each ok [] = Unit {0}
Each ok (x ∷ xs) = ok x × Each ok xs

-- there are so many, and each is one, numbered from k on
abbrev pub EachOf : {X : Type 0} → (ℕ → X → Type 0) → ℕ → ℕ → List X → Type 0
EachOf ok zero k [] = Unit {0}
EachOf ok zero k (x ∷ xs) = ⊥
EachOf ok (suc n) k [] = ⊥
EachOf ok (suc n) k (x ∷ xs) = ok k x × EachOf ok n (k + 1) xs

-- so many bytes
pub record IsSized (size : ℕ) (bytes : List ℕ) : Type 0 where
  pub many : length bytes ≡ size
  pub small : IsBytes bytes

-- a pending request of device d: any number of 32 bits, and a job that the device has
pub record IsPrintedRequest (D : Desc) (d : ℕ) (request : ℕ × ℕ) : Type 0 where
  pub number : request.0 < 2 ^ 32
  pub job : request.1 < length (shape_at D d).jobs

-- three counts of 32 bits
pub record AreCounts (counts : ℕ × ℕ × ℕ) : Type 0 where
  pub accepted : counts.0 < 2 ^ 32
  pub done : counts.1 < 2 ^ 32
  pub lost : counts.2 < 2 ^ 32

-- device d as a report can have it
pub record IsPrintedDevice (D : Desc) (d : ℕ) (dev : DeviceState) : Type 0 where
  pub counts : AreCounts (dev.accepted, dev.done, dev.lost)
  pub buf : IsSized 64 dev.buf
  pub bar : IsSized (bar_bytes (shape_at D d)) dev.bar
  pub pending : Each (IsPrintedRequest D d) dev.pending

-- a machine as a report can have it
pub record IsPrintedState (D : Desc) (m : Machine) : Type 0 where
  pub pages : EachOf (λ p. IsSized D.page) D.pages 0 m.pages
  pub devices : EachOf (IsPrintedDevice D) (device_count D) 0 m.devices

-- an entry of the machine, its numbers in the ranges of their types
pub record IsPrintedEntry (D : Desc) (entry : Entry) : Type 0 where
  pub there : IsTrue (is_entry_of D entry)
  pub fits : IsTrue (entry_fits entry)

abbrev pub IsPrintedJournal : Desc → List Entry → Type 0
IsPrintedJournal D entries = Each (IsPrintedEntry D) entries

-- it is one where it is there
abbrev pub IfThere : {X : Type 0} → (X → Type 0) → Option X → Type 0
IfThere ok None = Unit {0}
IfThere ok (Some x) = ok x

-- what a run made, as a report can have it
pub record IsPrinted (made : Made) : Type 0 where
  pub source : IsPrintedJournal made.desc made.source
  pub joint : IfThere (IsPrintedState made.desc) made.joint
  pub loaded : IfThere (IsPrintedState made.desc) made.loaded
  pub destination : IfThere (IsPrintedJournal made.desc) made.destination
  pub final : IfThere (IsPrintedState made.desc) made.final
