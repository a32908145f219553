-- Nothing was told or made that brings another status.
use Rattle.vfm_move.proofs.Ended.{failed_wires_move, failed_wires_explain}
use Rattle.vfm_move.proofs.ends.not_connected.Goals as goal

pub returns-clause-move_of : goal.returns-clause-move_of
returns-clause-move_of c = failed_wires_move

pub returns-clause-explained : goal.returns-clause-explained
returns-clause-explained c = failed_wires_explain
