-- Abort on the parts: the coordinator's, and every device's.
use Rattle.std.specs.Prelude.{◌&&◌, not, Bool, true, false, List, [], ◌∷◌, None}
use Rattle.vfm_types.specs.declared.entry.Rule.TheVariants.{Order}
use Rattle.vfm_plain.specs.Condition.{Condition}
use Rattle.vfm_parts.specs.Parts.{Dev, Lead}

-- the move was neither given up nor taken over
abbrev pub is_still_source_in : Lead → Bool
is_still_source_in lead = not lead.aborted && not lead.resumed

-- the conditions, in the order in which they are tested
abbrev pub abort_conditions_in : Lead → List Condition
abort_conditions_in lead =
    (is_still_source_in lead, Order) ∷ []

-- the coordinator once the move was given up
abbrev pub aborted_lead : Lead → Lead
aborted_lead lead = record lead { aborted = true; failed = false }

-- a device that is released: its hold is gone
abbrev pub aborted_dev : Dev → Dev
aborted_dev dev = record dev { hold = None; released = true }
