-- When a device may fail the arc to a state: exactly where its description says that this arc fails.
use Rattle.std.specs.Prelude.{Bool, List, [], nat_lt, not, ℕ, ◌&&◌, ◌+◌, ◌==◌, ◌∷◌}
use Rattle.vfm_types.specs.declared.state.MigState.{MigState}
use Rattle.vfm_types.specs.declared.entry.Entry.{Entry}
use Rattle.vfm_types.specs.declared.entry.Rule.TheVariants.{Order, Path, Quiet}
use Rattle.vfm_types.specs.declared.desc.Desc.{Desc}
use Rattle.vfm_types.specs.Desc.{shape_at}
use Rattle.vfm_types.specs.Phases.{is_aborted, is_resumed}
use Rattle.vfm_types.specs.Arcs.{arc_count}
use Rattle.vfm_types.specs.Words.{is_way_open}
use Rattle.vfm_plain.specs.ArcRules.{is_quiet_for_arc, may_take_arcs}
use Rattle.vfm_plain.specs.Condition.{Condition}

-- the state is the right one for an arc of device d that fails
abbrev pub is_right_fail : Desc → ℕ → MigState → List Entry → Bool
is_right_fail D d to past =
    not (is_aborted past) && not (is_resumed past) && is_way_open D d to past
    && nat_lt 0 (shape_at D d).fails && arc_count d past + 1 == (shape_at D d).fails

-- the conditions, in the order in which they are tested
abbrev pub fail_conditions : Desc → ℕ → MigState → List Entry → List Condition
fail_conditions D d to past =
    (may_take_arcs past, Order) ∷ (is_right_fail D d to past, Path) ∷ (is_quiet_for_arc D d to past, Quiet) ∷ []
