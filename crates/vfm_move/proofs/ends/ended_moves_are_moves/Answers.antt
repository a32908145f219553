-- Field by field.
use Rattle.vfm_move.proofs.Ended.{is_move, is_explained}
use Rattle.vfm_move.proofs.ends.ended_moves_are_moves.Goals as goal

pub returns-clause-move_of : goal.returns-clause-move_of
returns-clause-move_of c = is_move

pub returns-clause-explained : goal.returns-clause-explained
returns-clause-explained c = is_explained
