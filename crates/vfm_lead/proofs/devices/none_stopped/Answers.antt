-- One device that fails the test, or all pass.
use Rattle.std.proofs.Common.{sym, ap, ◌∙◌, arith, not}
use Rattle.vfm_types.specs.Arcs.{is_stopped}
use Rattle.vfm_quiet.proofs.AllDevices.{all_pass, one_fails}
use Rattle.vfm_types.specs.Desc.{device_count}
use Rattle.vfm_parts.specs.Parts.{Dev}
use Rattle.vfm_lead.specs.LeadSteps.{dev_of_list}
use Rattle.vfm_lead.proofs.devices.none_stopped.Goals as goal

pub returns-then-not-is_moving : goal.returns-then-not-is_moving
returns-then-not-is_moving c =
    let fails = ap (λ (dev : Dev). not (is_stopped dev.state)) (sym c.device.ensures) ∙ sym c.is_moving.ensures ∙ c.if-not-is_moving.true in
    sym (one_fails (device_count c.args.desc.now) c.loop-d.d (λ d. not (is_stopped (dev_of_list c.args.devices.now d).state)) (omega arith) fails)

pub returns : goal.returns
returns c = sym (all_pass (device_count c.args.desc.now) (λ d. not (is_stopped (dev_of_list c.args.devices.now d).state)) (λ k below. c.loop-d.invariant k (omega arith)))
