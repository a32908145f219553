-- The entry is one on the world of the group.
use Rattle.std.proofs.Common.{◌≡◌}
use Rattle.vfm_cell_steps.proofs.Groups.{at_ok, at_err, either, group_steps, group_sound}
use Rattle.vfm_cell_steps.proofs.group.step_group.Goals as goal

pub returns-clause-step : goal.returns-clause-step
returns-clause-step c = λ bytes.
    at_ok _ c.step_lead.result
    (λ fine lead devices. group_steps c.args.desc.now c.args.lead.now c.step_lead.new.lead c.args.devices.now c.step_lead.new.devices bytes c.args.e
    c.requires.sound c.requires.entry c.requires.kind fine lead devices)
    c.step_lead.ensures.guard c.step_lead.ensures.lead c.step_lead.ensures.devices

pub returns-clause-sound : goal.returns-clause-sound
returns-clause-sound c =
    either _ c.step_lead.result
    (λ fine lead devices. group_sound c.args.desc.now c.args.lead.now c.step_lead.new.lead c.args.devices.now c.step_lead.new.devices c.args.e
    c.requires.sound c.requires.entry c.requires.kind fine lead devices)
    (λ (lead : c.step_lead.new.lead ≡ c.args.lead.now) (devices : c.step_lead.new.devices ≡ c.args.devices.now). rw (lead, devices) c.requires.sound)
    c.step_lead.ensures.guard c.step_lead.ensures.lead c.step_lead.ensures.devices c.step_lead.ensures.lead_same c.step_lead.ensures.devices_same

pub returns-clause-same : goal.returns-clause-same
returns-clause-same c = at_err c.step_lead.result (λ a b. (a, b)) c.step_lead.ensures.lead_same c.step_lead.ensures.devices_same
