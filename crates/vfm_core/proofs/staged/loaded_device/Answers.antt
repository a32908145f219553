-- The counts of the device.
use Rattle.std.proofs.Common.{◌≡◌, ℕ, ◌+◌, ◌<◌, ◌≤◌, length, ap, sym, subst, ◌∙◌, arith}
use Rattle.vfm_types.specs.Machine.{DeviceState, device_of}
use Rattle.vfm_plain.specs.declared.part.Part.TheVariants.{Device}
use Rattle.vfm_core.specs.Loaded.{device_in, loaded}
use Rattle.vfm_core.proofs.Loads.{device_is, few_accepted, one_more_part}
use Rattle.vfm_core.proofs.staged.loaded_device.Goals as goal

same : (c : goal.After-lent-in-Device) → device_of (loaded c.args.parts.now) c.args.d ≡ device_in (Device c.in-Device.bar c.in-Device.buf c.in-Device.counts c.in-Device.pending)
same c =
    let place = ap (λ (k : ℕ). k + 1) (c.from.ensures ∙ c.d.view_is) in
    let count = one_more_part c.args.desc.now c.args.parts.now c.requires.loaded in
    let inside = c.requires.device in
    let within : c.from.result + 1 < length c.args.parts.now = omega arith in
    device_is c.args.desc.now c.args.parts.now c.args.d (c.from.result + 1) c.index-parts-from.result _ c.requires.loaded inside place within
    (sym c.in-Device.is ∙ c.index-parts-from.is)

pub staged-requires-clause-accepted : goal.staged-requires-clause-accepted
staged-requires-clause-accepted c =
    rw c.lent-in-Device.ensures
    (subst (λ (dev : DeviceState). dev.accepted ≡ dev.done + length dev.pending) (same c) (c.requires.loaded.counts c.args.d c.requires.device).accepted)

pub staged-requires-clause-few : goal.staged-requires-clause-few
staged-requires-clause-few c =
    subst (λ (dev : DeviceState). dev.accepted ≤ 50000) (same c) (few_accepted c.args.desc.now c.args.parts.now c.args.d c.requires.loaded c.requires.device)
