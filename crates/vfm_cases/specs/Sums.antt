-- A machine with one device that writes eight bytes of ones, adds one to them, and stores what it was given back.
use Rattle.std.specs.Prelude.{List, [], ◌∷◌, ◌++◌, replicate}
use Rattle.vfm_types.specs.declared.desc.Desc.{Desc}
use Rattle.vfm_types.specs.declared.job.Job.TheVariants.{Write, Store, Add}
use Rattle.vfm_types.specs.declared.entry.Entry.{Entry}
use Rattle.vfm_types.specs.declared.entry.Entry.TheVariants.{Issue, Deliver, Complete}
use Rattle.vfm_cases.specs.Bare.{bare_device, bare_machine}

abbrev pub carry : Desc
carry =
    record bare_machine {
      begin = 3;
      devices =
          (record bare_device {
            budget = 3;
            jobs = Write 8 (replicate 8 255) ∷ Add 8 1 ∷ Store 2 3 ∷ [];
            queue = 0 ∷ 1 ∷ 2 ∷ [];
          })
          ∷ [];
    }

abbrev pub carry_added : List Entry
carry_added = Issue 0 0 ∷ Deliver 0 0 ∷ Complete 0 0 ∷ Issue 0 1 ∷ Deliver 0 1 ∷ Complete 0 1 ∷ []

abbrev pub carry_stored : List Entry
carry_stored = carry_added ++ Issue 0 2 ∷ Deliver 0 2 ∷ []
