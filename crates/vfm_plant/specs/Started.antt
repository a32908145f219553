-- The core that a plant was started with, and what a plant keeps.
use Rattle.std.specs.Prelude.{◌≡◌, ℕ, ◌<◌, ◌≤◌, ◌^◌, [], length, vec_capacity}
use Rattle.vfm_types.specs.Desc.{device_count}
use Rattle.vfm_types.specs.Valid.{IsValid}
use Rattle.vfm_turn.specs.Words.{cells_of, desc_of, started_of}
use Rattle.vfm_cells.specs.Cells.{Cell, cell_count}
use Rattle.vfm_core.specs.CoreState.{CoreState}
use Rattle.vfm_core.specs.Split.{IsKeptApart, state_apart}
use Rattle.vfm_plant_laws.specs.OneRun.{AreCellsOf}
use Rattle.vfm_plant.specs.declared.plant.Plant.{Plant}

-- the core
abbrev pub started_core : Plant → CoreState
started_core plant = state_apart plant.began.value

-- how many entries its journal has
abbrev pub base_of : Plant → ℕ
base_of plant = length (started_core plant).entries

-- A plant's cells are those of the core that it was started with, by a valid description, and the core is kept.
pub record IsPlant (plant : Plant) : Type 0 where
  pub same : desc_of plant.board ≡ plant.desc
  pub cells : cells_of plant.board ≡ cell_count plant.desc
  pub valid : IsValid plant.desc
  pub few : length plant.journal.entries < 2 ^ 63
  pub described : plant.began.value.desc ≡ plant.desc
  pub wrote : plant.began.value.journal ≡ plant.journal
  pub kept : IsKeptApart plant.began.value
  pub began : AreCellsOf plant.desc (started_core plant).world (started_of (λ (part : Cell). part) plant.board)
  pub devices : (plant.devices.items ≡ []) × (device_count plant.desc ≤ vec_capacity plant.devices)
  pub pages : (plant.pages.items ≡ []) × (plant.desc.pages ≤ vec_capacity plant.pages)
