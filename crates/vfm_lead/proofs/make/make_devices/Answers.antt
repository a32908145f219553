-- One device is set, or none.
use Rattle.std.proofs.Common.{◌∙◌}
use Rattle.vfm_types.specs.Desc.{device_count}
use Rattle.vfm_parts.specs.HoldStep.{held_dev}
use Rattle.vfm_parts.specs.ArcStep.{moved_dev}
use Rattle.vfm_parts.specs.FailStep.{failed_dev}
use Rattle.vfm_parts.specs.ReportStep.{reported_dev}
use Rattle.vfm_parts.specs.BlockStep.{read_dev}
use Rattle.vfm_lead.specs.LeadSteps.{dev_of_list}
use Rattle.vfm_lead.proofs.Changed.{one_set, none_set}
use Rattle.vfm_lead.proofs.make.make_devices.Goals as goal

pub returns-in-Hold : goal.returns-in-Hold
returns-in-Hold c lead =
    rw c.in-Hold.is (c.hold.ensures
    ∙ one_set (device_count c.args.desc.now) c.args.devices.now c.in-Hold.d (held_dev c.in-Hold.to (dev_of_list c.args.devices.now c.in-Hold.d)) c.requires.devices.count)

pub returns-in-Arc : goal.returns-in-Arc
returns-in-Arc c lead =
    rw c.in-Arc.is (c.take_arc.ensures
    ∙ one_set (device_count c.args.desc.now) c.args.devices.now c.in-Arc.d (moved_dev c.in-Arc.to (dev_of_list c.args.devices.now c.in-Arc.d)) c.requires.devices.count)

pub returns-in-Fail : goal.returns-in-Fail
returns-in-Fail c lead =
    rw c.in-Fail.is (c.fail_arc.ensures
    ∙ one_set (device_count c.args.desc.now) c.args.devices.now c.in-Fail.d (failed_dev (dev_of_list c.args.devices.now c.in-Fail.d)) c.requires.devices.count)

pub returns-in-Report : goal.returns-in-Report
returns-in-Report c lead =
    rw c.in-Report.is (c.clear_log.ensures
    ∙ one_set (device_count c.args.desc.now) c.args.devices.now c.in-Report.d (reported_dev (dev_of_list c.args.devices.now c.in-Report.d)) c.requires.devices.count)

pub returns-in-Block : goal.returns-in-Block
returns-in-Block c lead =
    rw c.in-Block.is (c.read_block.ensures
    ∙ one_set (device_count c.args.desc.now) c.args.devices.now c.in-Block.d (read_dev c.args.desc.now c.in-Block.d c.in-Block.b (dev_of_list c.args.devices.now c.in-Block.d)) c.requires.devices.count)

pub returns-in-Pass : goal.returns-in-Pass
returns-in-Pass c lead = rw c.in-Pass.is (none_set (device_count c.args.desc.now) c.args.devices.now c.requires.devices.count)

pub returns-in-Dry : goal.returns-in-Dry
returns-in-Dry c lead = rw c.in-Dry.is (none_set (device_count c.args.desc.now) c.args.devices.now c.requires.devices.count)

pub returns-in-Joint : goal.returns-in-Joint
returns-in-Joint c lead = rw c.in-Joint.is (none_set (device_count c.args.desc.now) c.args.devices.now c.requires.devices.count)
