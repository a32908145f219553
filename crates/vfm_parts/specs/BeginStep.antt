-- Begin on the parts: the coordinator's, and every device's.
use Rattle.std.specs.Prelude.{ℕ, ◌&&◌, ◌||◌, not, Bool, true, nat_le, List, [], ◌∷◌}
use Rattle.vfm_types.specs.declared.entry.Rule.TheVariants.{Order, Start}
use Rattle.vfm_types.specs.declared.desc.Desc.{Desc}
use Rattle.vfm_types.specs.Desc.{device_count}
use Rattle.vfm_base.specs.Least.{all_below}
use Rattle.vfm_plain.specs.Condition.{Condition}
use Rattle.vfm_parts.specs.Parts.{Dev, Lead}
use Rattle.vfm_parts.specs.PartWords.{is_idle_in}

-- each device has completed what is wanted before the move, or is idle
abbrev pub may_begin_move_in : Desc → (ℕ → Dev) → Bool
may_begin_move_in D devs = all_below (device_count D) (λ d. nat_le D.begin (devs d).completes || is_idle_in (devs d))

-- the move hasn't begun, and was neither given up nor taken over
abbrev pub is_before_move_in : Lead → Bool
is_before_move_in lead = not lead.begun && not lead.aborted && not lead.resumed

-- the conditions, in the order in which they are tested
abbrev pub begin_conditions_in : Desc → Lead → (ℕ → Dev) → List Condition
begin_conditions_in D lead devs =
    (is_before_move_in lead, Order) ∷ (may_begin_move_in D devs, Start) ∷ []

-- the coordinator once the move has begun
abbrev pub begun_lead : Lead → Lead
begun_lead lead = record lead { begun = true }

-- a device whose log starts, with nothing marked
abbrev pub begun_dev : Dev → Dev
begun_dev dev = record dev { logging = true; marks = [] }
