-- What is written into the BARs of a device's part.
use Rattle.std.specs.Prelude.{ℕ, if◌then◌else◌, List, length}
use Rattle.std.specs.Int.{w64, from_le_bytes}
use Rattle.vfm_types.specs.declared.desc.DevShape.{DevShape}
use Rattle.vfm_types.specs.declared.job.Place.{Place}
use Rattle.vfm_types.specs.Job.{is_bell}
use Rattle.vfm_types.specs.Machine.{splice}
use Rattle.vfm_parts.specs.Parts.{Dev}
use Rattle.vfm_parts.specs.DeliverStep.{rung}
use Rattle.vfm_space.specs.Blocks.{with_marks}
use Rattle.vfm_space.specs.BlocksOfParts.{blocks_of}

-- the part with its doorbell rung with a number
abbrev pub rung_dev : DevShape → ℕ → Dev → Dev
rung_dev shape number dev = record dev { plain = rung shape dev.plain number }

-- the part with bytes written at an offset into its BARs; while its log is started, the blocks that they touch are marked
abbrev pub written_dev : ℕ → List ℕ → Dev → Dev
written_dev offset bytes dev =
    record dev {
      plain = record dev.plain { bar = splice dev.plain.bar offset bytes };
      dirty = if dev.logging then (with_marks offset (length bytes) (blocks_of dev)).dirty else dev.dirty;
    }

-- the part with bytes put at a place in its BARs: where they are a doorbell, it is rung
abbrev pub put_dev : DevShape → Place → List ℕ → Dev → Dev
put_dev shape place bytes dev =
    if is_bell place (length bytes) then rung_dev shape (from_le_bytes w64 bytes) dev
    else written_dev place.offset bytes dev
