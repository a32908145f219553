-- Small machines that lack what makes the generated load end in one way.
use Rattle.std.specs.Prelude.{ℕ, true, List, [], ◌∷◌, replicate}
use Rattle.vfm_types.specs.declared.job.Job.{Job}
use Rattle.vfm_types.specs.declared.job.Job.TheVariants.{Write, Add}
use Rattle.vfm_types.specs.declared.desc.DevShape.{DevShape}
use Rattle.vfm_types.specs.declared.desc.Desc.{Desc}

-- a device with a name of one letter and a BAR of two blocks
abbrev pub small_device : ℕ → List Job → List ℕ → DevShape
small_device letter jobs queue =
    record {
      name = letter ∷ [];
      flags = 3;
      bars = 128 ∷ [];
      window = 2;
      tells = true;
      budget = 4;
      fails = 0;
      jobs = jobs;
      queue = queue;
    }

-- a machine with two pages of 16 bytes
abbrev pub small_machine : List DevShape → Desc
small_machine devices =
    record {
      session = 7;
      page = 16;
      pages = 2;
      channels = 1;
      version = 1;
      begin = 0;
      rounds = 0;
      threshold = 0;
      devices = devices;
    }

-- one device that adds 5 and then 7 to one word
abbrev pub adder : Desc
adder = small_machine (small_device 97 (Add 0 5 ∷ Add 0 7 ∷ []) (0 ∷ 1 ∷ []) ∷ [])

-- one device that writes a 5 and a 7 at one place: no write is a fence
abbrev pub writer : Desc
writer = small_machine (small_device 97 (Write 0 (5 ∷ []) ∷ Write 0 (7 ∷ []) ∷ []) (0 ∷ 1 ∷ []) ∷ [])

-- two devices that add to one word
abbrev pub sharers : Desc
sharers =
    small_machine
    (small_device 97 (Add 0 5 ∷ []) (0 ∷ []) ∷ small_device 98 (Add 0 7 ∷ []) (0 ∷ []) ∷ [])

-- a device that writes two blocks at one place of its peer's BAR
abbrev pub painter : Desc
painter =
    small_machine
    (small_device 97 (Write 268959808 (5 ∷ []) ∷ Write 268959808 (7 ∷ []) ∷ []) (0 ∷ 1 ∷ [])
    ∷ small_device 98 [] [] ∷ [])

-- a device that rings its peer's doorbell for two jobs
abbrev pub ringer : Desc
ringer =
    small_machine
    (small_device 97 (Write 268959744 (0 ∷ replicate 7 0) ∷ Write 268959744 (1 ∷ replicate 7 0) ∷ [])
    (0 ∷ 1 ∷ [])
    ∷ small_device 98 (Add 0 5 ∷ Add 0 7 ∷ []) [] ∷ [])
