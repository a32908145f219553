-- One device that fails the test, or all pass.
use Rattle.std.proofs.Common.{sym, ap, ◌∙◌, arith}
use Rattle.vfm_types.specs.declared.state.MigState.TheVariants.{StopCopy}
use Rattle.vfm_types.specs.Paths.{same_state}
use Rattle.vfm_quiet.proofs.AllDevices.{all_pass, one_fails}
use Rattle.vfm_types.specs.Desc.{device_count}
use Rattle.vfm_parts.specs.Parts.{Dev}
use Rattle.vfm_lead.specs.LeadSteps.{dev_of_list}
use Rattle.vfm_lead.proofs.devices.are_all_in_stop_copy.Goals as goal

pub returns-then-not-stands_in : goal.returns-then-not-stands_in
returns-then-not-stands_in c =
    let fails = ap (λ (dev : Dev). same_state dev.state StopCopy) (sym c.device.ensures) ∙ sym c.stands_in.ensures ∙ c.if-not-stands_in.true in
    sym (one_fails (device_count c.args.desc.now) c.loop-d.d (λ d. same_state (dev_of_list c.args.devices.now d).state StopCopy) (omega arith) fails)

pub returns : goal.returns
returns c = sym (all_pass (device_count c.args.desc.now) (λ d. same_state (dev_of_list c.args.devices.now d).state StopCopy) (λ k below. c.loop-d.invariant k (omega arith)))
