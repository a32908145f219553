use Rattle.std.proofs.Common.{sym, ◌∙◌}
use Rattle.vfm_device_part.proofs.Deliveries.{waits_target}
use Rattle.vfm_device_part.proofs.part.DevPart.target.Goals as goal

pub returns-clause-there : goal.returns-clause-there
returns-clause-there c =
    rw (c.place_of.ensures, c.job_of-job.ensures.value)
    (waits_target c.args.desc.now c.args.d c.args.n c.args.self.now c.requires.valid c.requires.device c.requires.fits
    (sym c.is_undelivered.ensures ∙ c.if-not-is_undelivered.false))
