use Rattle.vfm_plain.proofs.Sound.{lies_of_job, some_bytes}
use Rattle.vfm_plain.proofs.plain.place_of.Goals as goal

pub returns-clause-lies : goal.returns-clause-lies
returns-clause-lies c = rw c.place_of.ensures (lies_of_job c.args.desc.now c.args.d c.args.job.now c.requires.valid c.requires.sound (some_bytes c.args.job.now c.requires.in_range).0)
