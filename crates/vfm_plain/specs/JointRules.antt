-- When the machine stands still: every device is found in STOP_COPY.
use Rattle.std.specs.Prelude.{Bool, List, [], not, ◌&&◌, ◌∷◌}
use Rattle.vfm_types.specs.declared.state.MigState.TheVariants.{StopCopy}
use Rattle.vfm_types.specs.declared.entry.Entry.{Entry}
use Rattle.vfm_types.specs.declared.entry.Rule.TheVariants.{Order, Joint as Standing}
use Rattle.vfm_types.specs.declared.desc.Desc.{Desc}
use Rattle.vfm_types.specs.Phases.{is_joint, is_on}
use Rattle.vfm_types.specs.Words.{all_stand_in}
use Rattle.vfm_plain.specs.Condition.{Condition}

-- the move is on, and the devices weren't found in STOP_COPY yet
abbrev pub is_before_joint : List Entry → Bool
is_before_joint past = is_on past && not (is_joint past)

-- every device stands in STOP_COPY
abbrev pub is_all_in_stop_copy : Desc → List Entry → Bool
is_all_in_stop_copy D past = all_stand_in D StopCopy past

-- the conditions, in the order in which they are tested
abbrev pub joint_conditions : Desc → List Entry → List Condition
joint_conditions D past =
    (is_before_joint past, Order) ∷ (is_all_in_stop_copy D past, Standing) ∷ []
