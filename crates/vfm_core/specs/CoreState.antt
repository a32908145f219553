-- The state of a core: its description, the entries that it made, and the world of its parts; and what it keeps.
use Rattle.std.specs.Prelude.{◌≡◌, ℕ, ◌+◌, ◌<◌, ◌≤◌, List, [], ◌∷◌, ◌++◌, length, slice_index_or}
use Rattle.vfm_types.specs.declared.desc.Desc.{Desc}
use Rattle.vfm_types.specs.declared.entry.Entry.{Entry}
use Rattle.vfm_types.specs.Arcs.{arc_count}
use Rattle.vfm_types.specs.Desc.{device_count}
use Rattle.vfm_types.specs.Outstanding.{complete_count, issue_count}
use Rattle.vfm_types.specs.Valid.{IsValid}
use Rattle.vfm_plain.specs.Legal.{IsLegal}
use Rattle.vfm_parts.specs.PartsOf.{world_of}
use Rattle.vfm_parts_laws.specs.StagedParts.{IsStagedAfter, staged_lead}
use Rattle.vfm_parts.specs.Parts.{Dev, Lead, World, dev_at, parts_in}
use Rattle.vfm_parts.specs.Start.{first_world}
use Rattle.vfm_parts.specs.Fits.{PageFits, PartsFit}
use Rattle.vfm_parts_laws.specs.EntriesLeft.{PartsStand, entries_left}

-- the description, the entries made, oldest first, and the parts
pub record CoreState : Type 0 where
  pub desc : Desc
  pub entries : List Entry
  pub world : World

-- the world of these parts
abbrev pub world_with : Lead → List Dev → List (List ℕ) → World
world_with lead devs pages = record { lead = lead; devs = devs; pages = pages }

-- a world has the devices and the pages of its valid description, and each part fits it
pub record FitsDesc (D : Desc) (w : World) : Type 0 where
  pub valid : IsValid D
  pub devs : length w.devs ≡ device_count D
  pub pages : length w.pages ≡ D.pages
  pub fits : PartsFit D (parts_in w)

-- What a core keeps: its parts fit; no device is in ERROR, and each is held as it should be; and there is room for every
-- entry that is left to its parts.
pub record IsKept (D : Desc) (entries : List Entry) (room : ℕ) (w : World) : Type 0 where
  pub fit : FitsDesc D w
  pub stand : PartsStand D (parts_in w)
  pub roomy : length entries + entries_left D (parts_in w) ≤ room

-- the state with one more entry, and the world after it
abbrev pub with_entry : Entry → World → CoreState → CoreState
with_entry entry w core = record core { entries = core.entries ++ entry ∷ []; world = w }

-- there are as many pages as the description has, and each fits
pub record PagesFit (D : Desc) (pages : List (List ℕ)) : Type 0 where
  pub count : length pages ≡ D.pages
  pub each : (p : ℕ) → p < D.pages → PageFits D (slice_index_or pages p [])

-- the core of the described machine
abbrev pub first_core : Desc → CoreState
first_core D = record { desc = D; entries = []; world = first_world D }

-- the parts are those of a legal list, newest first
pub record IsAfter (D : Desc) (past : List Entry) (w : World) : Type 0 where
  pub legal : IsLegal D past
  pub told : w ≡ world_of D past

-- how often a device issued, completed, and took an arc: by its part, and by a list
abbrev pub steps_in : Dev → ℕ × (ℕ × ℕ)
steps_in dev = (dev.issues, (dev.completes, dev.arcs))

abbrev pub steps_of : ℕ → List Entry → ℕ × (ℕ × ℕ)
steps_of d mine = (issue_count d mine, (complete_count d mine, arc_count d mine))

-- the coordinator's part is that of a machine just staged, but that the move may have been given up or taken over since
abbrev pub IsBare : Desc → Lead → Type 0
IsBare D lead =
    lead ≡ record (staged_lead D) { aborted = lead.aborted; resumed = lead.resumed; failed = lead.failed }

-- what was counted since a machine was staged is what the entries made since say
pub record HaveCounted (D : Desc) (mine : List Entry) (w : World) : Type 0 where
  pub lead : IsBare D w.lead
  pub devs : (d : ℕ) → d < device_count D → steps_in (dev_at w d) ≡ steps_of d mine

-- The parts are those of a machine that was staged after a list, `before`, and has made the entries `mine` since; both
-- together are legal.
pub record IsStagedOn (D : Desc) (before mine : List Entry) (w : World) : Type 0 where
  pub legal : IsLegal D (mine ++ before)
  pub after : IsStagedAfter D (mine ++ before) w
  pub counted : HaveCounted D mine w
