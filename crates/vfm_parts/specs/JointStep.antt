-- Joint on the parts: the coordinator's, and every device's.
use Rattle.std.specs.Prelude.{ℕ, ◌&&◌, not, Bool, true, List, [], ◌∷◌}
use Rattle.vfm_types.specs.declared.state.MigState.TheVariants.{StopCopy}
use Rattle.vfm_types.specs.declared.entry.Rule.TheVariants.{Joint as Standing, Order}
use Rattle.vfm_types.specs.declared.desc.Desc.{Desc}
use Rattle.vfm_base.specs.Least.{all_below}
use Rattle.vfm_types.specs.Paths.{same_state}
use Rattle.vfm_types.specs.Desc.{device_count}
use Rattle.vfm_plain.specs.Condition.{Condition}
use Rattle.vfm_parts.specs.Parts.{Dev, Lead}
use Rattle.vfm_parts.specs.PartWords.{is_on_in}

-- the move is on, and the devices weren't found in STOP_COPY yet
abbrev pub is_before_joint_in : Lead → Bool
is_before_joint_in lead = is_on_in lead && not lead.joint

-- every device stands in STOP_COPY
abbrev pub is_all_in_stop_copy_in : Desc → (ℕ → Dev) → Bool
is_all_in_stop_copy_in D devs = all_below (device_count D) (λ d. same_state (devs d).state StopCopy)

-- the conditions, in the order in which they are tested
abbrev pub joint_conditions_in : Desc → Lead → (ℕ → Dev) → List Condition
joint_conditions_in D lead devs =
    (is_before_joint_in lead, Order) ∷ (is_all_in_stop_copy_in D devs, Standing) ∷ []

-- the coordinator once every device was found in STOP_COPY
abbrev pub joint_lead : Lead → Lead
joint_lead lead = record lead { joint = true }
