-- No pass has begun.
use Rattle.vfm_move.proofs.Cases.{none_passed}
use Rattle.vfm_move.proofs.laws.a_fresh_source_stands.Goals as goal

pub returns-clause-no_pass : goal.returns-clause-no_pass
returns-clause-no_pass c = none_passed
