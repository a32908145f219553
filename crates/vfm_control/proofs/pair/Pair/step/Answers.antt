-- One more event is one more step.
use Rattle.vfm_control.proofs.Histories.{one_more}
use Rattle.vfm_control.proofs.pair.Pair.step.Goals as goal

pub returns-clause-after : goal.returns-clause-after
returns-clause-after c own past is = one_more own past c.args.e c.args.self.now c.make.new.self c.make.ensures.step is
