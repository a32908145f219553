-- One device that fails the test, or all pass.
use Rattle.std.proofs.Common.{ℕ, sym, ap, ◌∙◌, true, ◌≡◌, arith, ◌||◌, not}
use Rattle.vfm_types.specs.declared.state.MigState.TheVariants.{PreCopy}
use Rattle.vfm_types.specs.Desc.{shape_at}
use Rattle.vfm_types.specs.Paths.{same_state}
use Rattle.vfm_types.specs.State.{has_pre_copy}
use borrow.Author.Count.{below_more}
use Rattle.vfm_quiet.proofs.AllDevices.{all_pass, one_fails}
use Rattle.vfm_types.specs.Desc.{device_count}
use Rattle.vfm_parts.specs.Parts.{Dev}
use Rattle.vfm_lead.specs.LeadSteps.{dev_of_list}
use Rattle.vfm_lead.proofs.devices.have_entered_pre_copy.Goals as goal

pub returns-then-not-has_entered : goal.returns-then-not-has_entered
returns-then-not-has_entered c =
    let fails = ap (λ (dev : Dev). not (has_pre_copy (shape_at c.args.desc.now c.loop-d.d).flags) || same_state dev.state PreCopy) (sym c.device.ensures) ∙ sym c.has_entered.ensures ∙ c.if-not-has_entered.true in
    sym (one_fails (device_count c.args.desc.now) c.loop-d.d (λ d. not (has_pre_copy (shape_at c.args.desc.now d).flags) || same_state (dev_of_list c.args.devices.now d).state PreCopy) (omega arith) fails)

pub returns : goal.returns
returns c = sym (all_pass (device_count c.args.desc.now) (λ d. not (has_pre_copy (shape_at c.args.desc.now d).flags) || same_state (dev_of_list c.args.devices.now d).state PreCopy) (λ k below. c.loop-d.invariant k (omega arith)))

pub loop-d-preserved : goal.loop-d-preserved
loop-d-preserved c =
    let passes = ap (λ (dev : Dev). not (has_pre_copy (shape_at c.args.desc.now c.loop-d.d).flags) || same_state dev.state PreCopy) (sym c.device.ensures) ∙ sym c.has_entered.ensures ∙ c.if-not-has_entered.false in
    below_more (λ (k : ℕ). (not (has_pre_copy (shape_at c.args.desc.now k).flags) || same_state (dev_of_list c.args.devices.now k).state PreCopy) ≡ true)
    c.loop-d.d c.loop-d.invariant passes
