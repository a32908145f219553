use Rattle.vfm_types.specs.Desc.{no_job}
use Rattle.vfm_plain.proofs.Sound.{job_in_range}
use Rattle.vfm_device.proofs.Jobs.{job_lies}
use Rattle.vfm_device.proofs.turn.job_at.Goals as goal

pub returns-clause-in_range : goal.returns-clause-in_range
returns-clause-in_range c =
    rw (c.at.ensures.value no_job, c.shape_at.ensures) (job_in_range c.args.desc.now c.args.d c.args.j c.requires.valid c.requires.device c.requires.job)

pub returns-clause-lies : goal.returns-clause-lies
returns-clause-lies c =
    rw (c.at.ensures.value no_job, c.shape_at.ensures) (job_lies c.args.desc.now c.args.d c.args.j c.requires.valid c.requires.device c.requires.job)
