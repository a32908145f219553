-- All yields to it.
use Rattle.vfm_move.proofs.Ended.{no_memory_moves, no_memory_explains}
use Rattle.vfm_move.proofs.ends.memory_was_wanting_for_links.Goals as goal

pub returns-clause-move_of : goal.returns-clause-move_of
returns-clause-move_of c = no_memory_moves

pub returns-clause-explained : goal.returns-clause-explained
returns-clause-explained c = no_memory_explains
