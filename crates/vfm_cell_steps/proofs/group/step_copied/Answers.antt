-- The entry is one on the world of the group.
use Rattle.std.proofs.Common.{◌≡◌}
use Rattle.vfm_cell_steps.proofs.Groups.{one_ok, one_either, copy_group_steps, copy_sound}
use Rattle.vfm_cell_steps.proofs.group.step_copied.Goals as goal

pub returns-clause-step : goal.returns-clause-step
returns-clause-step c = λ bytes.
    one_ok _ c.step_copy.result
    (λ fine lead. copy_group_steps c.args.desc.now c.args.lead.now c.step_copy.new.lead c.args.devices.now bytes c.args.e
    c.requires.sound c.requires.entry c.requires.kind fine lead)
    (c.step_copy.ensures.guard c.args.devices.now) (c.step_copy.ensures.lead c.args.devices.now)

pub returns-clause-sound : goal.returns-clause-sound
returns-clause-sound c =
    one_either _ c.step_copy.result
    (λ fine lead. copy_sound c.args.desc.now c.args.lead.now c.step_copy.new.lead c.args.devices.now c.args.e
    c.requires.sound c.requires.entry c.requires.kind fine lead)
    (λ (lead : c.step_copy.new.lead ≡ c.args.lead.now). rw lead c.requires.sound)
    (c.step_copy.ensures.guard c.args.devices.now) (c.step_copy.ensures.lead c.args.devices.now) c.step_copy.ensures.same

pub returns-clause-guard : goal.returns-clause-guard
returns-clause-guard c = c.step_copy.ensures.guard c.args.devices.now
