-- When a block of a BAR may be read.
use Rattle.std.specs.Prelude.{Bool, List, [], is_none, ℕ, ◌&&◌, ◌∷◌}
use Rattle.vfm_types.specs.declared.entry.Entry.{Entry}
use Rattle.vfm_types.specs.declared.entry.Rule.TheVariants.{Blocks, Order}
use Rattle.vfm_types.specs.declared.desc.Desc.{Desc}
use Rattle.vfm_types.specs.Phases.{is_on}
use Rattle.vfm_types.specs.Marks.{next_copy}
use Rattle.vfm_types.specs.Blocks.{next_block, next_part}
use Rattle.vfm_plain.specs.Condition.{Condition, is_exactly}

-- every page of the newest pass is copied, and device d is the least whose part hasn't ended
abbrev pub is_part_due : Desc → ℕ → List Entry → Bool
is_part_due D d past = is_none (next_copy D past) && is_exactly d (next_part D past)

-- block b of device d is due: it is the device's part, and b is the block that it reads next
abbrev pub is_block_due : Desc → ℕ → ℕ → List Entry → Bool
is_block_due D d b past = is_part_due D d past && is_exactly b (next_block D d past)

-- the conditions, in the order in which they are tested
abbrev pub block_conditions : Desc → ℕ → ℕ → List Entry → List Condition
block_conditions D d b past =
    (is_on past, Order) ∷ (is_block_due D d b past, Blocks) ∷ []
