-- One device after the other.
use Rattle.std.proofs.Common.{arith}
use Rattle.vfm_parts.specs.ResumeStep.{resumed_dev}
use Rattle.vfm_lead.proofs.Changed.{none_changed, one_changed, all_changed}
use Rattle.vfm_lead.proofs.changes.resume_all.Goals as goal

pub loop-d-init : goal.loop-d-init
loop-d-init c = none_changed resumed_dev c.args.devices.now

pub loop-d-preserved : goal.loop-d-preserved
loop-d-preserved c =
    one_changed resumed_dev c.args.devices.now c.loop-d.devices c.loop-d.d c.index-devices-d.result c.resume.new.self c.loop-d.invariant (omega arith) c.resume.ensures

pub returns : goal.returns
returns c = all_changed resumed_dev c.args.devices.now c.loop-d.devices c.loop-d.d c.loop-d.invariant (omega arith)
