use Rattle.std.proofs.Common.{ap, sym, ◌∙◌}
use Rattle.vfm_types.specs.Outstanding.{is_arrived}
use Rattle.vfm_parts.specs.Parts.{Dev}
use Rattle.vfm_parts_laws.proofs.FittingQueues.{complete_fits}
use Rattle.vfm_device_part.proofs.Completed.{arrived_fine}
use Rattle.vfm_device_part.proofs.part.DevPart.complete.Goals as goal

pub returns-clause-fits : goal.returns-clause-fits
returns-clause-fits c =
    let arrived = sym (ap (λ (dev : Dev). is_arrived c.args.n dev.requests) c.self.view_is) ∙ sym c.is_arrived.ensures ∙ c.if-not-is_arrived.false in
    rw c.take_off_bus.ensures (complete_fits c.args.desc.now c.args.d c.args.n c.args.self.now c.requires.fits (arrived_fine c.args.n c.args.self.now arrived))
