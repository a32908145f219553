-- One device that fails the test, or all pass.
use Rattle.std.proofs.Common.{sym, ap, ◌∙◌, arith, ◌||◌}
use Rattle.vfm_types.specs.Arcs.{is_p2p, is_stopped}
use Rattle.vfm_quiet.proofs.AllDevices.{all_pass, one_fails}
use Rattle.vfm_types.specs.Desc.{device_count}
use Rattle.vfm_parts.specs.Parts.{Dev}
use Rattle.vfm_lead.specs.LeadSteps.{dev_of_list}
use Rattle.vfm_lead.proofs.devices.are_quiet.Goals as goal

pub returns-then-not-is_still : goal.returns-then-not-is_still
returns-then-not-is_still c =
    let fails = ap (λ (dev : Dev). is_p2p dev.state || is_stopped dev.state) (sym c.device.ensures) ∙ sym c.is_still.ensures ∙ c.if-not-is_still.true in
    sym (one_fails (device_count c.args.desc.now) c.loop-d.d (λ d. is_p2p (dev_of_list c.args.devices.now d).state || is_stopped (dev_of_list c.args.devices.now d).state) (omega arith) fails)

pub returns : goal.returns
returns c = sym (all_pass (device_count c.args.desc.now) (λ d. is_p2p (dev_of_list c.args.devices.now d).state || is_stopped (dev_of_list c.args.devices.now d).state) (λ k below. c.loop-d.invariant k (omega arith)))
