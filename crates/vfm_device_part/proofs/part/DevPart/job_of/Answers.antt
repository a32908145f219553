use Rattle.vfm_device_part.proofs.Deliveries.{waits_known, waits_listed}
use Rattle.vfm_device_part.proofs.part.DevPart.job_of.Goals as goal

pub pending_job-requires : goal.pending_job-requires
pending_job-requires c = waits_listed c.args.desc.now c.args.d c.args.n c.args.self.now c.requires.fits c.requires.waits

pub job_at-requires-clause-job : goal.job_at-requires-clause-job
job_at-requires-clause-job c =
    rw c.pending_job.ensures (waits_known c.args.desc.now c.args.d c.args.n c.args.self.now c.requires.fits c.requires.waits)
