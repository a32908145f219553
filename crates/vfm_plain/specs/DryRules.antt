-- When a device may say that it has no block to read now.
use Rattle.std.specs.Prelude.{Bool, List, [], is_none, ℕ, ◌&&◌, ◌∷◌}
use Rattle.vfm_types.specs.declared.entry.Entry.{Entry}
use Rattle.vfm_types.specs.declared.entry.Rule.TheVariants.{Blocks, Order}
use Rattle.vfm_types.specs.declared.desc.Desc.{Desc}
use Rattle.vfm_types.specs.Phases.{is_on}
use Rattle.vfm_types.specs.Blocks.{next_block}
use Rattle.vfm_plain.specs.BlockRules.{is_part_due}
use Rattle.vfm_plain.specs.Condition.{Condition}

-- device d is due, and has no block to read
abbrev pub is_dry_due : Desc → ℕ → List Entry → Bool
is_dry_due D d past = is_part_due D d past && is_none (next_block D d past)

-- the conditions, in the order in which they are tested
abbrev pub dry_conditions : Desc → ℕ → List Entry → List Condition
dry_conditions D d past =
    (is_on past, Order) ∷ (is_dry_due D d past, Blocks) ∷ []
