use Rattle.std.proofs.Common.{ap, ◌∙◌}
use Rattle.vfm_types.specs.Outstanding.{is_arrived}
use Rattle.vfm_parts.specs.Parts.{Dev}
use Rattle.vfm_device_part.proofs.Completed.{arrived_outstanding}
use Rattle.vfm_device_part.proofs.part.DevPart.job_on_bus.Goals as goal

pub job_on_bus-requires : goal.job_on_bus-requires
job_on_bus-requires c =
    arrived_outstanding c.args.n c.self.inside.engine.requests (ap (λ (dev : Dev). is_arrived c.args.n dev.requests) c.self.view_is ∙ c.requires)
