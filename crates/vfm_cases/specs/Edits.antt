-- Runs of numbered entries, and runs that were changed at one place.
use Rattle.std.specs.Prelude.{ℕ, ◌+◌, true, List, ◌∷◌, ◌++◌, map, take, drop}
use Rattle.vfm_types.specs.declared.entry.Entry.{Entry}
use Rattle.vfm_types.specs.declared.entry.Entry.TheVariants.{Copy, Block}
use Rattle.vfm_base.specs.PageSet.{numbers_where}

-- the pages below n are copied in rising order
abbrev pub copies : ℕ → List Entry
copies n = map (λ p. Copy p) (numbers_where (λ p. true) 0 n)

-- the blocks below n of device d are read in rising order
abbrev pub blocks_of : ℕ → ℕ → List Entry
blocks_of d n = map (λ b. Block d b) (numbers_where (λ b. true) 0 n)

-- the run with an entry put in at a place
abbrev pub inserting : ℕ → Entry → List Entry → List Entry
inserting place entry run = take place run ++ entry ∷ drop place run

-- the run without the entry at a place
abbrev pub omitting : ℕ → List Entry → List Entry
omitting place run = take place run ++ drop (place + 1) run

-- the run with the entry at a place and the next one exchanged
abbrev pub exchanging : ℕ → List Entry → List Entry
exchanging place run =
    take place run ++ take 1 (drop (place + 1) run) ++ take 1 (drop place run) ++ drop (place + 2) run
