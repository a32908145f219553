-- When a page may be copied.
use Rattle.std.specs.Prelude.{Bool, List, [], ℕ, ◌∷◌}
use Rattle.vfm_types.specs.declared.entry.Entry.{Entry}
use Rattle.vfm_types.specs.declared.entry.Rule.TheVariants.{Order, Pages}
use Rattle.vfm_types.specs.declared.desc.Desc.{Desc}
use Rattle.vfm_types.specs.Phases.{is_on}
use Rattle.vfm_types.specs.Marks.{next_copy}
use Rattle.vfm_plain.specs.Condition.{Condition, is_exactly}

-- page p is the least of the newest pass that isn't copied yet
abbrev pub is_copy_due : Desc → ℕ → List Entry → Bool
is_copy_due D p past = is_exactly p (next_copy D past)

-- the conditions, in the order in which they are tested
abbrev pub copy_conditions : Desc → ℕ → List Entry → List Condition
copy_conditions D p past =
    (is_on past, Order) ∷ (is_copy_due D p past, Pages) ∷ []
