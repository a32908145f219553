-- Copy on the parts: the coordinator's, and the page, whose bytes are read.
use Rattle.std.specs.Prelude.{ℕ, ◌==◌, ◌&&◌, not, Bool, List, [], ◌∷◌}
use Rattle.vfm_types.specs.declared.entry.Rule.TheVariants.{Order, Pages}
use Rattle.vfm_types.specs.declared.desc.Desc.{Desc}
use Rattle.vfm_base.specs.PageSet.{contains_page}
use Rattle.vfm_plain.specs.Condition.{Condition, is_exactly}
use Rattle.vfm_parts.specs.Parts.{Lead, numbers_below}
use Rattle.vfm_parts.specs.PartWords.{is_on_in, next_copy_in}

-- page p is the least of the newest pass that isn't copied yet
abbrev pub is_copy_due_in : ℕ → Lead → Bool
is_copy_due_in p lead = is_exactly p (next_copy_in lead)

-- the conditions, in the order in which they are tested
abbrev pub copy_conditions_in : ℕ → Lead → List Condition
copy_conditions_in p lead =
    (is_on_in lead, Order) ∷ (is_copy_due_in p lead, Pages) ∷ []

-- the coordinator once page p is copied
abbrev pub copied_lead : Desc → ℕ → Lead → Lead
copied_lead D p lead = record lead { left = numbers_below D.pages (λ q. contains_page lead.left q && not (p == q)) }
