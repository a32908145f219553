-- Arc on the parts: the coordinator's, and every device's.
use Rattle.std.specs.Prelude.{ℕ, ◌+◌, ◌==◌, ◌&&◌, ◌||◌, not, Bool, if◌then◌else◌, List, [], ◌∷◌, None}
use Rattle.vfm_types.specs.declared.state.MigState.{MigState}
use Rattle.vfm_types.specs.declared.state.MigState.TheVariants.{Running}
use Rattle.vfm_types.specs.declared.entry.Rule.TheVariants.{Order, Path, Quiet}
use Rattle.vfm_types.specs.declared.desc.Desc.{Desc}
use Rattle.vfm_types.specs.Paths.{same_state}
use Rattle.vfm_types.specs.Desc.{shape_at}
use Rattle.vfm_types.specs.Words.{has_barred, is_nothing}
use Rattle.vfm_plain.specs.Condition.{Condition}
use Rattle.vfm_plain.specs.ArcRules.{is_entering_p2p, is_stopping, is_leaving_p2p}
use Rattle.vfm_parts.specs.Parts.{Dev, Lead, one_more}
use Rattle.vfm_parts.specs.PartWords.{is_on_in, is_next_towards_in, is_way_open_in, is_quiet_in, none_stopped_in}

-- arcs are made before Joint while the move is on, and after it was given up or taken over
abbrev pub may_take_arcs_in : Lead → Bool
may_take_arcs_in lead = (is_on_in lead && not lead.joint) || lead.aborted || lead.resumed

-- the arc of device d to this state goes home to RUNNING
abbrev pub is_arc_home_in : Desc → ℕ → MigState → Dev → Bool
is_arc_home_in D d to dev = not (same_state dev.state Running) && is_next_towards_in D d Running to dev

-- the state is the right one for an arc of device d that succeeds
abbrev pub is_right_arc_in : Desc → ℕ → MigState → Lead → Dev → Bool
is_right_arc_in D d to lead dev =
    if lead.aborted || lead.resumed then is_arc_home_in D d to dev
    else is_way_open_in D d to lead dev && not (dev.arcs + 1 == (shape_at D d).fails)

-- quiet enough for an arc of device d
abbrev pub is_quiet_for_arc_in : Desc → ℕ → MigState → (ℕ → Dev) → Bool
is_quiet_for_arc_in D d to devs =
    let from = (devs d).state in
    let requests = (devs d).requests in
    (not (is_entering_p2p from to) || not (has_barred D d requests))
    && (not (is_stopping from to) || (is_nothing requests && is_quiet_in D devs))
    && (not (is_leaving_p2p from to) || none_stopped_in D devs)

-- the conditions, in the order in which they are tested
abbrev pub arc_conditions_in : Desc → ℕ → MigState → Lead → (ℕ → Dev) → List Condition
arc_conditions_in D d to lead devs =
    (may_take_arcs_in lead, Order) ∷ (is_right_arc_in D d to lead (devs d), Path) ∷ (is_quiet_for_arc_in D d to devs, Quiet) ∷ []

-- the device in another state, its hold gone
abbrev pub moved_dev : MigState → Dev → Dev
moved_dev to dev = record dev { state = to; hold = None; arcs = one_more dev.arcs }
