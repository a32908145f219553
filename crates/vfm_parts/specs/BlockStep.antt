-- Block on the parts: the coordinator's, and the device's.
use Rattle.std.specs.Prelude.{ℕ, ◌-◌, ◌==◌, ◌&&◌, not, is_none, Bool, List, [], ◌∷◌, Option, slice_set}
use Rattle.std.specs.Option.{option_or}
use Rattle.vfm_types.specs.declared.entry.Rule.TheVariants.{Blocks, Order}
use Rattle.vfm_types.specs.declared.desc.Desc.{Desc}
use Rattle.vfm_base.specs.PageSet.{contains_page, least_page_from}
use Rattle.vfm_types.specs.Desc.{shape_at, block_count}
use Rattle.vfm_plain.specs.Condition.{Condition, is_exactly}
use Rattle.vfm_parts.specs.Parts.{Dev, Lead, numbers_below}
use Rattle.vfm_parts.specs.PartWords.{is_on_in, next_copy_in, next_part_in, blocks_left_in}

-- the block of the device to be read next: its least unread one, or where there is none its least dirty one
abbrev pub next_block_in : Dev → Option ℕ
next_block_in dev = option_or (least_page_from dev.unread 0) (least_page_from dev.dirty 0)

-- every page of the newest pass is copied, and device d is the least whose part hasn't ended
abbrev pub is_part_due_in : Desc → ℕ → Lead → Bool
is_part_due_in D d lead = is_none (next_copy_in lead) && is_exactly d (next_part_in D lead)

-- block b of device d is due: it is the device's part, and b is the block that it reads next
abbrev pub is_block_due_in : Desc → ℕ → ℕ → Lead → Dev → Bool
is_block_due_in D d b lead dev = is_part_due_in D d lead && is_exactly b (next_block_in dev)

-- the conditions, in the order in which they are tested
abbrev pub block_conditions_in : Desc → ℕ → ℕ → Lead → Dev → List Condition
block_conditions_in D d b lead dev =
    (is_on_in lead, Order) ∷ (is_block_due_in D d b lead dev, Blocks) ∷ []

-- the coordinator after a block of device d was read
abbrev pub read_lead : ℕ → Lead → Lead
read_lead d lead = record lead { parts = slice_set lead.parts d (blocks_left_in lead d - 1) }

-- the device d whose block b was read: the block's marks are gone
abbrev pub read_dev : Desc → ℕ → ℕ → Dev → Dev
read_dev D d b dev =
    let blocks = block_count (shape_at D d) in
    record dev {
      unread = numbers_below blocks (λ c. not (b == c) && contains_page dev.unread c);
      dirty = numbers_below blocks (λ c. not (b == c) && contains_page dev.dirty c);
    }
