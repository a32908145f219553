-- Which cells an entry touches: it is judged by the parts in them, and changes no others.
use Rattle.std.specs.Prelude.{ℕ, zero, suc, ◌+◌, ◌==◌, Bool, true, nat_lt, if◌then◌else◌, List, [], ◌∷◌}
use Rattle.vfm_types.specs.declared.desc.Desc.{Desc}
use Rattle.vfm_types.specs.declared.entry.Entry.{Entry}
use Rattle.vfm_types.specs.declared.entry.Entry.TheVariants.{Issue, Deliver, Complete, Report, Copy, Block, Dry}
use Rattle.vfm_types.specs.declared.job.Region.{Region}
use Rattle.vfm_types.specs.declared.job.Region.TheVariants.{Page, Bar}
use Rattle.vfm_types.specs.Desc.{device_count}
use Rattle.vfm_parts.specs.Parts.{Dev, Parts}
use Rattle.vfm_parts.specs.DeliverStep.{job_in, region_of_job}
use Rattle.vfm_cells.specs.Cells.{dev_number, page_number, region_number}

-- the n numbers from c on
abbrev pub up_from : ℕ → ℕ → List ℕ
up_from c zero = []
up_from c (suc n) = c ∷ up_from (c + 1) n

-- one or two cells in rising order
abbrev pub in_order : ℕ → ℕ → List ℕ
in_order a b = if a == b then a ∷ [] else (if nat_lt a b then a ∷ b ∷ [] else b ∷ a ∷ [])

-- where request n of device d is aimed
abbrev pub aim : Desc → ℕ → ℕ → Dev → Region
aim D d n dev = region_of_job D (job_in D d n dev)

-- the cells that an entry touches, in rising order
abbrev pub touched : Desc → Parts → Entry → List ℕ
touched D parts (Issue d n) = dev_number d ∷ []
touched D parts (Deliver d n) = in_order (dev_number d) (region_number D (aim D d n (parts.dev d)))
touched D parts (Complete d n) = dev_number d ∷ []
touched D parts (Report d) = 0 ∷ dev_number d ∷ []
touched D parts (Copy p) = 0 ∷ page_number D p ∷ []
touched D parts (Block d b) = 0 ∷ dev_number d ∷ []
touched D parts (Dry d) = 0 ∷ dev_number d ∷ []
touched D parts entry = up_from 0 (device_count D + 1)

-- the description has the region
abbrev pub has_region : Desc → Region → Bool
has_region D (Page p) = nat_lt p D.pages
has_region D (Bar t) = nat_lt t (device_count D)

-- what the entry delivers, if it does, is aimed at a region that is there
abbrev pub is_aimed : Desc → Parts → Entry → Bool
is_aimed D parts (Deliver d n) = has_region D (aim D d n (parts.dev d))
is_aimed D parts entry = true
