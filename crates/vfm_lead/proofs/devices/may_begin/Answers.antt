-- One device that fails the test, or all pass.
use Rattle.std.proofs.Common.{sym, ap, ◌∙◌, arith, ◌||◌, nat_le}
use Rattle.vfm_parts.specs.PartWords.{is_idle_in}
use Rattle.vfm_quiet.proofs.AllDevices.{all_pass, one_fails}
use Rattle.vfm_types.specs.Desc.{device_count}
use Rattle.vfm_parts.specs.Parts.{Dev}
use Rattle.vfm_lead.specs.LeadSteps.{dev_of_list}
use Rattle.vfm_lead.proofs.devices.may_begin.Goals as goal

pub returns-then-not-is_warm : goal.returns-then-not-is_warm
returns-then-not-is_warm c =
    let fails = ap (λ (dev : Dev). nat_le c.args.desc.now.begin dev.completes || is_idle_in dev) (sym c.device.ensures) ∙ sym c.is_warm.ensures ∙ c.if-not-is_warm.true in
    sym (one_fails (device_count c.args.desc.now) c.loop-d.d (λ d. nat_le c.args.desc.now.begin (dev_of_list c.args.devices.now d).completes || is_idle_in (dev_of_list c.args.devices.now d)) (omega arith) fails)

pub returns : goal.returns
returns c = sym (all_pass (device_count c.args.desc.now) (λ d. nat_le c.args.desc.now.begin (dev_of_list c.args.devices.now d).completes || is_idle_in (dev_of_list c.args.devices.now d)) (λ k below. c.loop-d.invariant k (omega arith)))
