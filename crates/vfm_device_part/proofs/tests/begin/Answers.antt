use Rattle.vfm_device_part.proofs.MoveFits.{begun_fits}
use Rattle.vfm_device_part.proofs.tests.begin.Goals as goal

pub returns-clause-a : goal.returns-clause-a
returns-clause-a c = rw c.begin.ensures (begun_fits c.args.desc.now 0 c.args.parts.now.a c.requires.a)

pub returns-clause-b : goal.returns-clause-b
returns-clause-b c = rw c.begin-2.ensures (begun_fits c.args.desc.now 1 c.args.parts.now.b c.requires.b)
