-- How much was copied and read in all.
use Rattle.std.specs.Prelude.{ℕ, ◌+◌, ◌==◌, if◌then◌else◌, List, [], ◌∷◌}
use Rattle.vfm_types.specs.declared.entry.Entry.{Entry}
use Rattle.vfm_types.specs.declared.entry.Entry.TheVariants.{Pass, Copy, Block}

-- how many pages were copied
abbrev pub copy_count : List Entry → ℕ
copy_count [] = 0
copy_count (Copy p ∷ past) = copy_count past + 1
copy_count (entry ∷ past) = copy_count past

-- how many of them in the newest pass
abbrev pub pages_copied : List Entry → ℕ
pages_copied [] = 0
pages_copied (Copy p ∷ past) = pages_copied past + 1
pages_copied (Pass k ∷ past) = 0
pages_copied (entry ∷ past) = pages_copied past

-- how many blocks of device d were read
abbrev pub reading_count : ℕ → List Entry → ℕ
reading_count d [] = 0
reading_count d (Block e b ∷ past) = reading_count d past + (if e == d then 1 else 0)
reading_count d (entry ∷ past) = reading_count d past
