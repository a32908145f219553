-- When the destination may take the machine over.
use Rattle.std.specs.Prelude.{Bool, List, [], ◌&&◌, ◌∷◌}
use Rattle.vfm_types.specs.declared.entry.Entry.{Entry}
use Rattle.vfm_types.specs.declared.entry.Rule.TheVariants.{Order, Joint as Standing}
use Rattle.vfm_types.specs.declared.desc.Desc.{Desc}
use Rattle.vfm_types.specs.Phases.{is_joint, is_last_begun, is_on}
use Rattle.vfm_types.specs.Blocks.{is_no_pass_open}
use Rattle.vfm_plain.specs.Condition.{Condition}

-- the whole state was copied: every device was found in STOP_COPY, and the last pass has begun and ended
abbrev pub is_state_copied : Desc → List Entry → Bool
is_state_copied D past = is_joint past && is_last_begun past && is_no_pass_open D past

-- the conditions, in the order in which they are tested
abbrev pub resume_conditions : Desc → List Entry → List Condition
resume_conditions D past =
    (is_on past, Order) ∷ (is_state_copied D past, Standing) ∷ []
