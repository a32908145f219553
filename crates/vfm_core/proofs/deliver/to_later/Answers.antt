-- The issuer stands in the first half, the target at the front of the second.
use Rattle.std.proofs.Common.{◌≡◌, ℕ, ◌<◌, ◌≤◌, None, Some, length, take, drop, ap, ap₂, sym, subst, ◌∙◌, arith, slice_set}
use Rattle.std.specs.Result.{MatchResult}
use Rattle.vfm_types.specs.declared.entry.Entry.TheVariants.{Deliver}
use Rattle.vfm_types.specs.declared.job.Region.TheVariants.{Bar}
use Rattle.vfm_parts.specs.Parts.{Dev}
use Rattle.vfm_parts.specs.DeliverStep.{delivered_dev, job_in, struck_dev}
use Rattle.vfm_parts.specs.Fits.{DevFits}
use Rattle.vfm_device_part.specs.DeviceSteps.{IsAimed, own_fault}
use Rattle.vfm_core.proofs.Outcomes.{at_ok}
use Rattle.vfm_core.proofs.Between.{low_item, high_item, both_set}
use Rattle.vfm_core.proofs.deliver.to_later.Goals as goal

pub step_to_device-requires-clause-target_fits : goal.step_to_device-requires-clause-target_fits
step_to_device-requires-clause-target_fits c =
    let place = c.from.ensures ∙ c.t.view_is in
    let back = c.split_at_mut-low.ensures.back ∙ ap (λ (j : ℕ). drop j c.args.devices.now) place in
    let inside : c.args.t < length c.args.devices.now = omega arith in
    subst (λ (dev : Dev). DevFits c.args.desc.now c.args.t dev)
    (sym (high_item c.args.devices.now c.split_at_mut-low.result.1.now c.args.t c.index-high-0.result back inside))
    (c.requires.devices.each c.args.t c.requires.target)

pub step_to_device-requires-clause-aimed : goal.step_to_device-requires-clause-aimed
step_to_device-requires-clause-aimed c =
    let place = c.from.ensures ∙ c.t.view_is in
    let front = c.split_at_mut-low.ensures.front ∙ ap (λ (j : ℕ). take j c.args.devices.now) place in
    let inside : c.args.t ≤ length c.args.devices.now = omega arith in
    subst (λ (dev : Dev). IsAimed c.args.desc.now (Deliver c.args.d c.args.n) dev (Bar c.args.t))
    (sym (low_item c.args.devices.now c.split_at_mut-low.result.0.now c.args.d c.args.t c.from-2.result c.index-low-from.result front (c.from-2.ensures ∙ c.d.view_is) c.requires.later inside))
    c.requires.aimed

pub returns-clause-guard : goal.returns-clause-guard
returns-clause-guard c =
    let place = c.from.ensures ∙ c.t.view_is in
    let front = c.split_at_mut-low.ensures.front ∙ ap (λ (j : ℕ). take j c.args.devices.now) place in
    let inside : c.args.t ≤ length c.args.devices.now = omega arith in
    subst (λ (dev : Dev). MatchResult c.step_to_device.result (λ x. own_fault c.args.desc.now (Deliver c.args.d c.args.n) dev ≡ None)
    (λ guard. own_fault c.args.desc.now (Deliver c.args.d c.args.n) dev ≡ Some guard.0))
    (low_item c.args.devices.now c.split_at_mut-low.result.0.now c.args.d c.args.t c.from-2.result c.index-low-from.result front (c.from-2.ensures ∙ c.d.view_is) c.requires.later inside)
    c.step_to_device.ensures.guard

pub returns-clause-devices : goal.returns-clause-devices
returns-clause-devices c =
    let place = c.from.ensures ∙ c.t.view_is in
    let front = c.split_at_mut-low.ensures.front ∙ ap (λ (j : ℕ). take j c.args.devices.now) place in
    let back = c.split_at_mut-low.ensures.back ∙ ap (λ (j : ℕ). drop j c.args.devices.now) place in
    let within : c.args.t < length c.args.devices.now = omega arith in
    let inside : c.args.t ≤ length c.args.devices.now = omega arith in
    let own = low_item c.args.devices.now c.split_at_mut-low.result.0.now c.args.d c.args.t c.from-2.result c.index-low-from.result front (c.from-2.ensures ∙ c.d.view_is) c.requires.later inside in
    let target = high_item c.args.devices.now c.split_at_mut-low.result.1.now c.args.t c.index-high-0.result back within in
    at_ok c.step_to_device.result
    (λ made struck. both_set c.args.devices.now c.split_at_mut-low.result.0.now c.split_at_mut-low.result.1.now c.args.d c.args.t c.from-2.result
    c.step_to_device.new.own c.step_to_device.new.target front back (c.from-2.ensures ∙ c.d.view_is) c.requires.later
    ∙ ap₂ (λ (a b : Dev). slice_set (slice_set c.args.devices.now c.args.d a) c.args.t b)
    (made ∙ ap₂ (λ (t o : Dev). delivered_dev c.args.desc.now c.args.d c.args.n t.plain.bar o) target own)
    (struck ∙ ap₂ (λ (t o : Dev). struck_dev c.args.desc.now c.args.t (job_in c.args.desc.now c.args.d c.args.n o) o.plain.buf t) target own))
    c.step_to_device.ensures.own c.step_to_device.ensures.target
