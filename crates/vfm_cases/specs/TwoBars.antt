-- A machine whose first device has two BARs, of 128 and of 64 bytes, into the second of which the second device writes.
use Rattle.std.specs.Prelude.{List, [], ◌∷◌, ◌++◌, ◌*◌, ℕ, codes, replicate, reverse}
use Rattle.vfm_types.specs.declared.desc.Desc.{Desc}
use Rattle.vfm_types.specs.declared.desc.DevShape.{DevShape}
use Rattle.vfm_types.specs.declared.job.Job.{Job}
use Rattle.vfm_types.specs.declared.job.Job.TheVariants.{Write}
use Rattle.vfm_types.specs.declared.state.MigState.TheVariants.{PreCopy}
use Rattle.vfm_types.specs.declared.entry.Entry.{Entry}
use Rattle.vfm_types.specs.declared.entry.Entry.TheVariants.{Issue, Deliver, Arc, Pass, Copy, Block, Begin}
use Rattle.vfm_types.specs.Machine.{Machine}
use Rattle.vfm_types.specs.Deliveries.{machine_of}
use Rattle.vfm_cases.specs.Bare.{bare_device, second_device, bare_machine}

-- the device with two BARs
abbrev pub two_bar_device : DevShape
two_bar_device = record bare_device { bars = 128 ∷ 64 ∷ [] }

-- that device beside one that has these jobs and is asked for the first of them
abbrev pub aimed : List Job → Desc
aimed jobs =
    record bare_machine {
      rounds = 2;
      devices = two_bar_device ∷ (record second_device { budget = 1; jobs = jobs; queue = 0 ∷ [] }) ∷ [];
    }

-- the byte 255 is written at the first address of BAR 1
abbrev pub two_bars : Desc
two_bars = aimed (Write 268500992 (255 ∷ []) ∷ [])

-- all three blocks of the first device are read, and then the write comes
abbrev pub two_bars_written : List Entry
two_bars_written =
    Begin ∷ Arc 0 PreCopy ∷ Arc 1 PreCopy ∷ Pass 1 ∷ Copy 0 ∷ Block 0 0 ∷ Block 0 1 ∷ Block 0 2 ∷ Issue 1 0 ∷ Deliver 1 0 ∷ []

-- the machine after the write
abbrev pub two_bars_end : Machine
two_bars_end = machine_of two_bars (reverse two_bars_written)

-- so many bytes of zeros as hex digits
abbrev pub zeros : ℕ → List ℕ
zeros bytes = replicate (2 * bytes) 48

-- its state, as printed
abbrev pub two_bars_lines : List (List ℕ)
two_bars_lines =
    (codes "page 0 " ++ zeros 16) ∷ codes "device 0 a accepted 0 done 0 lost 0" ∷ (codes "buf 0 " ++ zeros 64)
    ∷ (codes "bar 0 0 " ++ zeros 128) ∷ (codes "bar 0 1 ff" ++ zeros 63) ∷ codes "device 1 b accepted 1 done 1 lost 0"
    ∷ (codes "buf 1 " ++ zeros 64) ∷ (codes "bar 1 " ++ zeros 64) ∷ []
