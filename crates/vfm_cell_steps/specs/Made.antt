-- Steps on cells that are known by their numbers.
use Rattle.std.specs.Prelude.{◌≡◌, ℕ, ◌<◌, ◌==◌, false, if◌then◌else◌, List, map, Some}
use Rattle.vfm_types.specs.declared.desc.Desc.{Desc}
use Rattle.vfm_types.specs.declared.entry.Entry.{Entry}
use Rattle.vfm_types.specs.declared.entry.Entry.TheVariants.{Deliver}
use Rattle.vfm_types.specs.declared.job.Region.{Region}
use Rattle.vfm_parts.specs.Parts.{Dev, Lead, World, parts_in, listed}
use Rattle.vfm_turn.specs.Order.{has}
use Rattle.vfm_cells.specs.Cells.{Cell, dev_number, region_number, cell_at, cell_count}
use Rattle.vfm_cells.specs.Touched.{touched, in_order}
use Rattle.vfm_cells.specs.CellSteps.{step_of}

-- what lies in these cells before an entry, it makes of them what lies there after it
abbrev pub IsMade : Desc → Entry → List ℕ → (ℕ → Cell) → (ℕ → Cell) → Type 0
IsMade D entry cells before after = step_of D entry cells (map before cells) ≡ Some (map after cells)

-- this lies in cell k, and that in each other one
abbrev pub two_cells : ℕ → Cell → Cell → ℕ → Cell
two_cells k this that c = if k == c then this else that

-- the cells of device d and of a region
abbrev pub cells_of_delivery : Desc → ℕ → Region → List ℕ
cells_of_delivery D d region = in_order (dev_number d) (region_number D region)

-- A Deliver of device d at a region: what lies in the device's cell and in the region's, before and after.
pub record IsDelivered (D : Desc) (d n : ℕ) (region : Region) (own target own' target' : Cell) : Type 0 where
  pub made : IsMade D (Deliver d n) (cells_of_delivery D d region) (two_cells (dev_number d) own target) (two_cells (dev_number d) own' target')

-- the coordinator's part and the devices', and pages of these bytes, which the coordinator doesn't change
abbrev pub group : Desc → Lead → List Dev → List ℕ → World
group D lead devs bytes = record { lead = lead; devs = devs; pages = listed D.pages (λ p. bytes) }

-- An entry makes of the cells that it touches what lies there in the second world, and leaves each other cell as it was.
pub record IsStepTo (D : Desc) (entry : Entry) (w v : World) : Type 0 where
  pub made : IsMade D entry (touched D (parts_in w) entry) (cell_at D w) (cell_at D v)
  pub kept : (c : ℕ) → c < cell_count D → has c (touched D (parts_in w) entry) ≡ false → cell_at D v c ≡ cell_at D w c
