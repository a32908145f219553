use Rattle.vfm_device_part.proofs.part.DevPart.page_written.Goals as goal
use Rattle.std.specs.Prelude.{length}
use Rattle.vfm_types.specs.Desc.{shape_at}
use Rattle.vfm_device_part.proofs.Completed.{known_job}

pub page_written-requires-clause-job : goal.page_written-requires-clause-job
page_written-requires-clause-job c =
    rw c.job_on_bus.ensures (known_job (length (shape_at c.args.desc.now c.args.d).jobs) c.args.n c.args.self.now.requests c.requires.fits.known c.requires.arrived)
