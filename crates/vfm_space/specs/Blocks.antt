-- The BAR bytes of a device with the marks of their blocks: 64 bytes each, counted over all BARs.
use Rattle.std.specs.Prelude.{ℕ, ◌+◌, ◌*◌, ◌/◌, ◌==◌, ◌&&◌, ◌||◌, not, Bool, true, if◌then◌else◌, List, [], Option, Some, None, drop, length, nat_lt, replicate, take}
use Rattle.std.specs.Int.{w64, from_le_bytes}
use Rattle.vfm_base.specs.PageSet.{contains_page, numbers_where, pages_where}
use Rattle.vfm_types.specs.Machine.{splice}

-- the bytes; the blocks that were never read; and those that were written since they were read, both in rising order
pub record Blocks : Type 0 where
  pub bytes : List ℕ
  pub unread : List ℕ
  pub dirty : List ℕ

-- these bytes, a multiple of 64, with every block unread
abbrev pub unread_blocks : List ℕ → Blocks
unread_blocks bytes = record { bytes = bytes; unread = numbers_where (λ b. true) 0 (length bytes / 64); dirty = [] }

-- so many bytes, a multiple of 64, as a device begins with them: zeros, every block unread
abbrev pub new_blocks : ℕ → Blocks
new_blocks size =
    record { bytes = replicate size 0; unread = numbers_where (λ b. true) 0 (size / 64); dirty = [] }

-- the len bytes from an offset on touch block b
abbrev pub touches_block : ℕ → ℕ → ℕ → Bool
touches_block offset len b = nat_lt 0 len && nat_lt offset (64 * (b + 1)) && nat_lt (64 * b) (offset + len)

-- with other bytes at an offset, and the marks as they were
abbrev pub with_bytes_set : ℕ → List ℕ → Blocks → Blocks
with_bytes_set offset bytes blocks = record blocks { bytes = splice blocks.bytes offset bytes }

-- the len bytes from an offset on marked as written: a block that they touch is dirty from then on, unless it is yet to
-- be read at all
abbrev pub with_marks : ℕ → ℕ → Blocks → Blocks
with_marks offset len blocks =
    record blocks {
      dirty = pages_where (λ b. contains_page blocks.dirty b
          || (touches_block offset len b && not (contains_page blocks.unread b)));
    }

-- with bytes written at an offset, and the blocks that they touch marked
abbrev pub with_written : ℕ → List ℕ → Blocks → Blocks
with_written offset bytes blocks = with_marks offset (length bytes) (with_bytes_set offset bytes blocks)

-- bytes written at an offset ring the doorbell: 8 of them at the start of BAR 0, which comes first
abbrev pub rings : ℕ → List ℕ → Bool
rings offset bytes = offset == 0 && length bytes == 8

-- the number that the doorbell is rung with, little-endian, where it is rung
abbrev pub rung_number : ℕ → List ℕ → Option ℕ
rung_number offset bytes = if rings offset bytes then Some (from_le_bytes w64 bytes) else None

-- after bytes are put at an offset: a doorbell changes nothing
abbrev pub after_put : ℕ → List ℕ → Blocks → Blocks
after_put offset bytes blocks = if rings offset bytes then blocks else with_written offset bytes blocks

-- the 64 bytes of block b
abbrev pub bytes_of_block : ℕ → Blocks → List ℕ
bytes_of_block b blocks = take 64 (drop (64 * b) blocks.bytes)

-- with block b read: its marks go
abbrev pub with_read : ℕ → Blocks → Blocks
with_read b blocks =
    record blocks {
      unread = pages_where (λ c. contains_page blocks.unread c && not (c == b));
      dirty = pages_where (λ c. contains_page blocks.dirty c && not (c == b));
    }
