-- When the dirty log of a device may be read and cleared.
use Rattle.std.specs.Prelude.{Bool, List, [], if◌then◌else◌, nat_lt, not, ℕ, ◌&&◌, ◌∷◌}
use Rattle.vfm_types.specs.declared.entry.Entry.{Entry}
use Rattle.vfm_types.specs.declared.entry.Rule.TheVariants.{Order, Pages}
use Rattle.vfm_types.specs.declared.desc.Desc.{Desc}
use Rattle.vfm_types.specs.Phases.{is_joint, is_last_begun, is_on, pass_count}
use Rattle.vfm_types.specs.Marks.{has_reported}
use Rattle.vfm_types.specs.Blocks.{is_no_pass_open}
use Rattle.vfm_types.specs.Words.{is_decided}
use Rattle.vfm_plain.specs.Condition.{Condition}

-- device d may report: a pass has begun, the newest has ended, d hasn't reported since it began, and another pass is
-- to come
abbrev pub may_report_log : Desc → ℕ → List Entry → Bool
may_report_log D d past =
    nat_lt 0 (pass_count past) && is_no_pass_open D past && not (has_reported d past)
    && (if is_joint past then not (is_last_begun past) else not (is_decided D past))

-- the conditions, in the order in which they are tested
abbrev pub report_conditions : Desc → ℕ → List Entry → List Condition
report_conditions D d past =
    (is_on past, Order) ∷ (may_report_log D d past, Pages) ∷ []
