-- A machine with one device that may have two requests outstanding: two writes of one byte at address 0, then a read.
use Rattle.std.specs.Prelude.{List, [], ◌∷◌, ◌++◌}
use Rattle.vfm_types.specs.declared.desc.Desc.{Desc}
use Rattle.vfm_types.specs.declared.job.Job.TheVariants.{Write, Read}
use Rattle.vfm_types.specs.declared.entry.Entry.{Entry}
use Rattle.vfm_types.specs.declared.entry.Entry.TheVariants.{Issue, Deliver}
use Rattle.vfm_cases.specs.Bare.{bare_device, bare_machine}

abbrev pub window_two : Desc
window_two =
    record bare_machine {
      begin = 3;
      devices =
          (record bare_device {
            window = 2;
            budget = 3;
            jobs = Write 0 (170 ∷ []) ∷ Write 0 (187 ∷ []) ∷ Read 0 1 ∷ [];
            queue = 0 ∷ 1 ∷ 2 ∷ [];
          })
          ∷ [];
    }

-- both writes are outstanding, and the second one is delivered first
abbrev pub window_full : List Entry
window_full = Issue 0 0 ∷ Issue 0 1 ∷ []

abbrev pub window_delivered : List Entry
window_delivered = window_full ++ Deliver 0 1 ∷ Deliver 0 0 ∷ []
