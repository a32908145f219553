-- Devices and a machine with nothing to do, from which worked ones are made.
use Rattle.std.specs.Prelude.{ℕ, true, List, [], ◌∷◌, replicate}
use Rattle.vfm_types.specs.declared.desc.Desc.{Desc}
use Rattle.vfm_types.specs.declared.desc.DevShape.{DevShape}

-- a device with every state, a BAR of one block, and no jobs
abbrev pub bare_device : DevShape
bare_device =
    record { name = 97 ∷ []; flags = 7; bars = 64 ∷ []; window = 1; tells = true; budget = 0; fails = 0; jobs = []; queue = [] }

-- the same under a second and a third name
abbrev pub second_device : DevShape
second_device = record bare_device { name = 98 ∷ [] }

abbrev pub third_device : DevShape
third_device = record bare_device { name = 99 ∷ [] }

-- a machine of one page whose move may begin at once and stops the devices at once; it wants devices
abbrev pub bare_machine : Desc
bare_machine =
    record {
      session = 7;
      page = 16;
      pages = 1;
      channels = 1;
      version = 1;
      begin = 0;
      rounds = 0;
      threshold = 0;
      devices = [];
    }

-- the 8 bytes, little-endian, of a number below 256
abbrev pub eight : ℕ → List ℕ
eight n = n ∷ replicate 7 0
