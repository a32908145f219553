-- Fail on the parts: the coordinator's, and every device's.
use Rattle.std.specs.Prelude.{ℕ, ◌+◌, ◌==◌, ◌&&◌, not, Bool, true, nat_lt, List, [], ◌∷◌}
use Rattle.vfm_types.specs.declared.state.MigState.{MigState}
use Rattle.vfm_types.specs.declared.entry.Rule.TheVariants.{Order, Path, Quiet}
use Rattle.vfm_types.specs.declared.desc.Desc.{Desc}
use Rattle.vfm_types.specs.Desc.{shape_at}
use Rattle.vfm_plain.specs.Condition.{Condition}
use Rattle.vfm_parts.specs.Parts.{Dev, Lead, one_more}
use Rattle.vfm_parts.specs.PartWords.{is_way_open_in}
use Rattle.vfm_parts.specs.ArcStep.{may_take_arcs_in, is_quiet_for_arc_in}

-- the state is the right one for an arc of device d that fails
abbrev pub is_right_fail_in : Desc → ℕ → MigState → Lead → Dev → Bool
is_right_fail_in D d to lead dev =
    not lead.aborted && not lead.resumed && is_way_open_in D d to lead dev
    && nat_lt 0 (shape_at D d).fails && dev.arcs + 1 == (shape_at D d).fails

-- the conditions, in the order in which they are tested
abbrev pub fail_conditions_in : Desc → ℕ → MigState → Lead → (ℕ → Dev) → List Condition
fail_conditions_in D d to lead devs =
    (may_take_arcs_in lead, Order) ∷ (is_right_fail_in D d to lead (devs d), Path) ∷ (is_quiet_for_arc_in D d to devs, Quiet) ∷ []

-- the coordinator once an arc has failed
abbrev pub failed_lead : Lead → Lead
failed_lead lead = record lead { failed = true }

-- the device that failed an arc
abbrev pub failed_dev : Dev → Dev
failed_dev dev = record dev { arcs = one_more dev.arcs }
