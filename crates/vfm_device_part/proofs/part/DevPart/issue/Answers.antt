use Rattle.std.proofs.Common.{sym, ◌∙◌}
use Rattle.vfm_parts_laws.proofs.FittingQueues.{issue_fits}
use Rattle.vfm_device_part.proofs.part.DevPart.issue.Goals as goal

pub returns-clause-fits : goal.returns-clause-fits
returns-clause-fits c =
    rw c.put_on_bus.ensures (issue_fits c.args.desc.now c.args.d c.args.n c.args.self.now c.requires.fits (sym c.issue_fault.ensures ∙ c.in_default.is))
