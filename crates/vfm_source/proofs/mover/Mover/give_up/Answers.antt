-- What was copied stands behind an abort, and with it the machine at the joint stop.
use Rattle.std.proofs.Common.{rules}
use Rattle.vfm_source.proofs.GivingUp.{still_moves}
use Rattle.vfm_source.proofs.mover.Mover.give_up.Goals as goal

pub returns-clause-moves : goal.returns-clause-moves
returns-clause-moves c = λ past moves going given. still_moves c.args.self.now _ past (search rules) moves given
