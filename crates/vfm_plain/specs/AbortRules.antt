-- When the source may give up.
use Rattle.std.specs.Prelude.{Bool, List, [], not, ◌&&◌, ◌∷◌}
use Rattle.vfm_types.specs.declared.entry.Entry.{Entry}
use Rattle.vfm_types.specs.declared.entry.Rule.TheVariants.{Order}
use Rattle.vfm_types.specs.declared.desc.Desc.{Desc}
use Rattle.vfm_types.specs.Phases.{is_aborted, is_resumed}
use Rattle.vfm_plain.specs.Condition.{Condition}

-- the move was neither given up nor taken over
abbrev pub is_still_source : List Entry → Bool
is_still_source past = not (is_aborted past) && not (is_resumed past)

-- the conditions, in the order in which they are tested
abbrev pub abort_conditions : Desc → List Entry → List Condition
abort_conditions D past =
    (is_still_source past, Order) ∷ []
