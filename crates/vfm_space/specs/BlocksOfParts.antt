-- The BAR bytes of a device's part with the marks of their blocks, and which jobs write into them.
use Rattle.std.specs.Prelude.{ℕ, ◌&&◌, not, Bool}
use Rattle.vfm_types.specs.declared.job.Job.{Job}
use Rattle.vfm_types.specs.declared.desc.Desc.{Desc}
use Rattle.vfm_types.specs.Job.{is_bar_of, is_doorbell, is_writer, place_of}
use Rattle.vfm_parts.specs.Parts.{Dev}
use Rattle.vfm_space.specs.Blocks.{Blocks}

-- the BAR bytes of a device's part with their marks
abbrev pub blocks_of : Dev → Blocks
blocks_of dev = record { bytes = dev.plain.bar; unread = dev.unread; dirty = dev.dirty }

-- a device's part with these BAR bytes and marks
abbrev pub with_blocks : Blocks → Dev → Dev
with_blocks blocks dev =
    record dev { plain = record dev.plain { bar = blocks.bytes }; unread = blocks.unread; dirty = blocks.dirty }

-- the job writes bytes into the BARs of device t: a doorbell writes none
abbrev pub writes_bar : Desc → ℕ → Job → Bool
writes_bar D t job = is_writer job && is_bar_of t (place_of D job).region && not (is_doorbell D job)
