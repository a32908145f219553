-- The cells of a machine, each with one part: cell 0 the coordinator's, then one for each device, then one for each page.
use Rattle.std.specs.Prelude.{◌≡◌, ℕ, ◌+◌, ◌-◌, ◌==◌, nat_lt, if◌then◌else◌, List, [], length}
use Rattle.vfm_types.specs.declared.desc.Desc.{Desc}
use Rattle.vfm_types.specs.declared.job.Region.{Region}
use Rattle.vfm_types.specs.declared.job.Region.TheVariants.{Page, Bar}
use Rattle.vfm_types.specs.Desc.{device_count}
use Rattle.vfm_parts.specs.Parts.{Dev, Lead, World, Parts, parts_in, no_dev}
use Rattle.vfm_parts.specs.Start.{first_lead}

-- the part that lies in a cell
pub data Cell : Type 0 where
  lead_cell : Lead → Cell
  device_cell : Dev → Cell
  page_cell : List ℕ → Cell

-- the number of the cell of device d, and of page p; the coordinator's is 0
abbrev pub dev_number : ℕ → ℕ
dev_number d = d + 1

abbrev pub page_number : Desc → ℕ → ℕ
page_number D p = p + (device_count D + 1)

-- how many cells there are
abbrev pub cell_count : Desc → ℕ
cell_count D = D.pages + (device_count D + 1)

-- the number of the cell of a region: its page's, or its owner's
abbrev pub region_number : Desc → Region → ℕ
region_number D (Page p) = page_number D p
region_number D (Bar t) = dev_number t

-- the part in a cell of this kind; another where the cell is of another kind
abbrev pub lead_or_first : Desc → Cell → Lead
lead_or_first D (lead_cell lead) = lead
lead_or_first D (device_cell dev) = first_lead D
lead_or_first D (page_cell bytes) = first_lead D

abbrev pub dev_or_none : Cell → Dev
dev_or_none (lead_cell lead) = no_dev
dev_or_none (device_cell dev) = dev
dev_or_none (page_cell bytes) = no_dev

abbrev pub bytes_or_none : Cell → List ℕ
bytes_or_none (lead_cell lead) = []
bytes_or_none (device_cell dev) = []
bytes_or_none (page_cell bytes) = bytes

-- cell c of these parts
abbrev pub cell_in : Desc → Parts → ℕ → Cell
cell_in D parts c =
    if c == 0 then lead_cell parts.lead else
    (if nat_lt c (device_count D + 1) then device_cell (parts.dev (c - 1)) else page_cell (parts.page (c - (device_count D + 1))))

-- cell c of a world
abbrev pub cell_at : Desc → World → ℕ → Cell
cell_at D w c = cell_in D (parts_in w) c

-- the parts in cells that are given by their numbers; no device beyond those of the description
abbrev pub parts_of_cells : Desc → (ℕ → Cell) → Parts
parts_of_cells D at =
    record {
      lead = lead_or_first D (at 0);
      dev = λ d. if nat_lt d (device_count D) then dev_or_none (at (dev_number d)) else no_dev;
      page = λ p. bytes_or_none (at (page_number D p));
    }

-- a world has the devices and the pages of its description
pub record IsWhole (D : Desc) (w : World) : Type 0 where
  pub devs : length w.devs ≡ device_count D
  pub pages : length w.pages ≡ D.pages
