-- Machines with one device, two places in its window, and a fence before a write; the second one can't tell
-- peer-to-peer DMA from other DMA.
use Rattle.std.specs.Prelude.{false, [], ◌∷◌}
use Rattle.vfm_types.specs.declared.desc.Desc.{Desc}
use Rattle.vfm_types.specs.declared.desc.DevShape.{DevShape}
use Rattle.vfm_types.specs.declared.job.Job.TheVariants.{Write, Read}
use Rattle.vfm_cases.specs.Bare.{bare_device, bare_machine}

abbrev pub fencing_device : DevShape
fencing_device =
    record bare_device { flags = 3; window = 2; budget = 2; jobs = Read 0 1 ∷ Write 0 (1 ∷ []) ∷ []; queue = 0 ∷ 1 ∷ [] }

abbrev pub fences : Desc
fences = record bare_machine { begin = 2; devices = fencing_device ∷ [] }

abbrev pub mute : Desc
mute = record bare_machine { devices = (record fencing_device { tells = false }) ∷ [] }
