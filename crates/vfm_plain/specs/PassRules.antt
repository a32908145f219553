-- When a copying pass may begin.
use Rattle.std.specs.Prelude.{Bool, List, [], if◌then◌else◌, nat_le, not, ℕ, ◌&&◌, ◌+◌, ◌==◌, ◌||◌, ◌∷◌}
use Rattle.vfm_types.specs.declared.state.MigState.TheVariants.{PreCopy}
use Rattle.vfm_types.specs.declared.entry.Entry.{Entry}
use Rattle.vfm_types.specs.declared.entry.Rule.TheVariants.{Decide, Order, Pages}
use Rattle.vfm_types.specs.declared.desc.Desc.{Desc}
use Rattle.vfm_types.specs.State.{has_pre_copy}
use Rattle.vfm_types.specs.Paths.{same_state}
use Rattle.vfm_types.specs.Desc.{device_count, shape_at}
use Rattle.vfm_base.specs.Least.{all_below}
use Rattle.vfm_types.specs.Phases.{is_joint, is_last_begun, is_on, pass_count}
use Rattle.vfm_types.specs.Arcs.{state_of}
use Rattle.vfm_types.specs.Marks.{has_reported}
use Rattle.vfm_types.specs.Blocks.{is_no_pass_open}
use Rattle.vfm_types.specs.Words.{is_decided}
use Rattle.vfm_plain.specs.Condition.{Condition}

-- pass k is the next, the one before has ended, and each device has reported since that began
abbrev pub is_next_pass : Desc → ℕ → List Entry → Bool
is_next_pass D k past =
    k == pass_count past + 1 && is_no_pass_open D past
    && (nat_le k 1 || all_below (device_count D) (λ d. has_reported d past))

-- a pass is wanted: the last one after Joint; before it one more, the first once each device with PRE_COPY stands in it
abbrev pub is_pass_wanted : Desc → ℕ → List Entry → Bool
is_pass_wanted D k past =
    if is_joint past then not (is_last_begun past)
    else not (is_decided D past)
    && (not (k == 1) || all_below (device_count D) (λ d. not (has_pre_copy (shape_at D d).flags) || same_state (state_of d past) PreCopy))

-- the conditions, in the order in which they are tested
abbrev pub pass_conditions : Desc → ℕ → List Entry → List Condition
pass_conditions D k past =
    (is_on past, Order) ∷ (is_next_pass D k past, Pages) ∷ (is_pass_wanted D k past, Decide) ∷ []
