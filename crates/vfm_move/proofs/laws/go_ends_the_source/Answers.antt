-- Status by status.
use Rattle.vfm_move.proofs.Cases.{silent, over_whole, doubt_whole}
use Rattle.vfm_move.proofs.laws.go_ends_the_source.Goals as goal

pub returns-clause-silent : goal.returns-clause-silent
returns-clause-silent c = silent

pub returns-clause-taken_over : goal.returns-clause-taken_over
returns-clause-taken_over c = over_whole

pub returns-clause-in_doubt : goal.returns-clause-in_doubt
returns-clause-in_doubt c = doubt_whole
