use Rattle.vfm_device_part.proofs.MoveFits.{begun_fits, reported_fits, resumed_fits}
use Rattle.vfm_device_part.proofs.tests.move_step.Goals as goal

pub returns-in-0 : goal.returns-in-0
returns-in-0 c = rw c.begin.ensures (begun_fits c.args.desc.now c.args.d c.args.part.now c.requires.fits)

pub returns-then-same : goal.returns-then-same
returns-then-same c = rw c.report.ensures.reported (reported_fits c.args.desc.now c.args.d c.args.part.now c.requires.fits)

pub returns-else-same : goal.returns-else-same
returns-else-same c = rw c.report.ensures.reported (reported_fits c.args.desc.now c.args.d c.args.part.now c.requires.fits)

pub returns-in-6 : goal.returns-in-6
returns-in-6 c = rw c.resume.ensures (resumed_fits c.args.desc.now c.args.d c.args.part.now c.requires.fits)
