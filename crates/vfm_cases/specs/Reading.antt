-- A machine whose second device writes over the border of two blocks of the first one's BAR while that one is read.
use Rattle.std.specs.Prelude.{List, [], ◌∷◌, ◌++◌, replicate}
use Rattle.vfm_types.specs.declared.desc.Desc.{Desc}
use Rattle.vfm_types.specs.declared.job.Job.TheVariants.{Write}
use Rattle.vfm_types.specs.declared.state.MigState.TheVariants.{PreCopy}
use Rattle.vfm_types.specs.declared.entry.Entry.{Entry}
use Rattle.vfm_types.specs.declared.entry.Entry.TheVariants.{Issue, Deliver, Complete, Arc, Report, Pass, Copy, Block, Begin}
use Rattle.vfm_cases.specs.Bare.{bare_device, second_device, bare_machine}

abbrev pub reading : Desc
reading =
    record bare_machine {
      rounds = 2;
      devices =
          (record bare_device { bars = 128 ∷ [] })
          ∷ (record second_device { budget = 1; jobs = Write 268435516 (replicate 8 5) ∷ []; queue = 0 ∷ [] }) ∷ [];
    }

-- the first pass up to the first block of the first device
abbrev pub reading_begun : List Entry
reading_begun = Begin ∷ Arc 0 PreCopy ∷ Arc 1 PreCopy ∷ Pass 1 ∷ Copy 0 ∷ Block 0 0 ∷ []

-- the write comes before block 1 is read
abbrev pub reading_early : List Entry
reading_early = reading_begun ++ Issue 1 0 ∷ Deliver 1 0 ∷ []

-- the write comes after the reading of block 1
abbrev pub reading_late : List Entry
reading_late = reading_begun ++ Block 0 1 ∷ Issue 1 0 ∷ Deliver 1 0 ∷ []

-- then the second pass, in which the first device's dirty blocks are read
abbrev pub reading_again : List Entry
reading_again = reading_late ++ Block 1 0 ∷ Report 0 ∷ Report 1 ∷ Complete 1 0 ∷ Pass 2 ∷ Block 0 0 ∷ []
