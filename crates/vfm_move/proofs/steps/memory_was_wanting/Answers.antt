-- All yields to it.
use Rattle.vfm_move.proofs.Unanswered.{memory_wanting}
use Rattle.vfm_move.proofs.steps.memory_was_wanting.Goals as goal

pub returns : goal.returns
returns c = memory_wanting
