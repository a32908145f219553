-- Dry on the parts: the coordinator's, and the device's.
use Rattle.std.specs.Prelude.{ℕ, ◌&&◌, is_none, Bool, List, [], ◌∷◌, slice_set}
use Rattle.vfm_types.specs.declared.entry.Rule.TheVariants.{Blocks, Order}
use Rattle.vfm_types.specs.declared.desc.Desc.{Desc}
use Rattle.vfm_plain.specs.Condition.{Condition}
use Rattle.vfm_parts.specs.Parts.{Dev, Lead}
use Rattle.vfm_parts.specs.PartWords.{is_on_in}
use Rattle.vfm_parts.specs.BlockStep.{is_part_due_in, next_block_in}

-- device d is due, and has no block to read
abbrev pub is_dry_due_in : Desc → ℕ → Lead → Dev → Bool
is_dry_due_in D d lead dev = is_part_due_in D d lead && is_none (next_block_in dev)

-- the conditions, in the order in which they are tested
abbrev pub dry_conditions_in : Desc → ℕ → Lead → Dev → List Condition
dry_conditions_in D d lead dev =
    (is_on_in lead, Order) ∷ (is_dry_due_in D d lead dev, Blocks) ∷ []

-- the coordinator once the part of device d has ended
abbrev pub dry_lead : ℕ → Lead → Lead
dry_lead d lead = record lead { parts = slice_set lead.parts d 0 }
