-- Machines that a description may not describe.
use Rattle.std.specs.Prelude.{List, [], ◌∷◌}
use Rattle.vfm_types.specs.declared.desc.Desc.{Desc}
use Rattle.vfm_types.specs.declared.job.Job.{Job}
use Rattle.vfm_types.specs.declared.job.Job.TheVariants.{Write, Read}
use Rattle.vfm_cases.specs.Bare.{bare_device, second_device, bare_machine}

-- two devices, with these jobs of the first
abbrev pub with_jobs : List Job → Desc
with_jobs jobs = record bare_machine { pages = 2; devices = (record bare_device { jobs = jobs }) ∷ second_device ∷ [] }

-- two devices under one name, and three of which the first and the third have one
abbrev pub same_names : Desc
same_names = record bare_machine { devices = bare_device ∷ bare_device ∷ [] }

abbrev pub first_and_third : Desc
first_and_third = record bare_machine { devices = bare_device ∷ second_device ∷ bare_device ∷ [] }

-- two devices, the second without the peer-to-peer states
abbrev pub without_p2p : Desc
without_p2p = record bare_machine { devices = bare_device ∷ (record second_device { flags = 5 }) ∷ [] }

-- a machine with every fault
abbrev pub all_faults : Desc
all_faults =
    record bare_machine {
      devices =
          (record bare_device { flags = 1 }) ∷ (record bare_device { jobs = Write 268959744 (1 ∷ []) ∷ Read 12 8 ∷ [] }) ∷ [];
    }

-- the same without the first of them
abbrev pub all_but_names : Desc
all_but_names =
    record bare_machine {
      devices =
          (record bare_device { flags = 1 }) ∷ (record second_device { jobs = Write 268959744 (1 ∷ []) ∷ Read 12 8 ∷ [] })
          ∷ [];
    }
