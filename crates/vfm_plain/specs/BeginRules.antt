-- When the move may begin.
use Rattle.std.specs.Prelude.{Bool, List, [], nat_le, not, ◌&&◌, ◌||◌, ◌∷◌}
use Rattle.vfm_types.specs.declared.entry.Entry.{Entry}
use Rattle.vfm_types.specs.declared.entry.Rule.TheVariants.{Order, Start}
use Rattle.vfm_types.specs.declared.desc.Desc.{Desc}
use Rattle.vfm_types.specs.Desc.{device_count}
use Rattle.vfm_base.specs.Least.{all_below}
use Rattle.vfm_types.specs.Phases.{is_aborted, is_begun, is_resumed}
use Rattle.vfm_types.specs.Outstanding.{complete_count}
use Rattle.vfm_types.specs.Words.{is_idle}
use Rattle.vfm_plain.specs.Condition.{Condition}

-- each device has completed what is wanted before the move, or is idle
abbrev pub may_begin_move : Desc → List Entry → Bool
may_begin_move D past = all_below (device_count D) (λ d. nat_le D.begin (complete_count d past) || is_idle D d past)

-- the move hasn't begun, and was neither given up nor taken over
abbrev pub is_before_move : List Entry → Bool
is_before_move past = not (is_begun past) && not (is_aborted past) && not (is_resumed past)

-- the conditions, in the order in which they are tested
abbrev pub begin_conditions : Desc → List Entry → List Condition
begin_conditions D past =
    (is_before_move past, Order) ∷ (may_begin_move D past, Start) ∷ []
