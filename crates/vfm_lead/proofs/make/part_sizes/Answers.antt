-- One device after the other.
use Rattle.std.proofs.Common.{ℕ, ap, ◌∙◌, arith}
use Rattle.vfm_types.specs.Desc.{device_count}
use Rattle.vfm_parts.specs.Parts.{listed}
use Rattle.vfm_parts.specs.PassStep.{part_size}
use Rattle.vfm_lead.specs.LeadSteps.{dev_of_list}
use Rattle.vfm_lead.proofs.Filled.{none_filled, one_filled, all_filled}
use Rattle.vfm_lead.proofs.make.part_sizes.Goals as goal

pub loop-d-init : goal.loop-d-init
loop-d-init c =
    none_filled (device_count c.args.desc.now) (part_size c.args.desc.now c.args.lead.now (dev_of_list c.args.devices.now)) c.zeros-sizes.result
    (c.zeros-sizes.ensures ∙ ap (λ (n : ℕ). listed n (λ k. 0)) c.count-count.ensures.value)

pub set-requires : goal.set-requires
set-requires c = let e = c.loop-d.invariant.count in omega arith

pub loop-d-preserved : goal.loop-d-preserved
loop-d-preserved c =
    rw c.set.ensures
    (one_filled (device_count c.args.desc.now) (part_size c.args.desc.now c.args.lead.now (dev_of_list c.args.devices.now)) c.loop-d.sizes c.loop-d.d
    c.part_size.result c.loop-d.invariant (omega arith) c.part_size.ensures)

pub returns : goal.returns
returns c =
    all_filled (device_count c.args.desc.now) (part_size c.args.desc.now c.args.lead.now (dev_of_list c.args.devices.now)) c.loop-d.sizes c.loop-d.d
    c.loop-d.invariant (omega arith)
