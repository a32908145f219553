-- Resume on the parts: the coordinator's, and every device's.
use Rattle.std.specs.Prelude.{◌&&◌, Bool, true, false, List, [], ◌∷◌}
use Rattle.vfm_types.specs.declared.state.MigState.TheVariants.{Resuming}
use Rattle.vfm_types.specs.declared.entry.Rule.TheVariants.{Joint as Standing, Order}
use Rattle.vfm_types.specs.declared.desc.Desc.{Desc}
use Rattle.vfm_plain.specs.Condition.{Condition}
use Rattle.vfm_parts.specs.Parts.{Dev, Lead}
use Rattle.vfm_parts.specs.PartWords.{is_on_in, is_no_pass_open_in}

-- the whole state was copied: every device was found in STOP_COPY, and the last pass has begun and ended
abbrev pub is_state_copied_in : Desc → Lead → Bool
is_state_copied_in D lead = lead.joint && lead.last && is_no_pass_open_in D lead

-- the conditions, in the order in which they are tested
abbrev pub resume_conditions_in : Desc → Lead → List Condition
resume_conditions_in D lead =
    (is_on_in lead, Order) ∷ (is_state_copied_in D lead, Standing) ∷ []

-- the coordinator once the destination took over
abbrev pub resumed_lead : Lead → Lead
resumed_lead lead = record lead { resumed = true }

-- a device that is released at the destination: its log is stopped, and its marks are cleared
abbrev pub resumed_dev : Dev → Dev
resumed_dev dev =
    record dev { state = Resuming; logging = false; released = true; marks = []; unread = []; dirty = [] }
