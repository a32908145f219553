-- Status by status.
use Rattle.vfm_move.proofs.Cases.{to_memory, not_to_moved}
use Rattle.vfm_move.proofs.laws.every_status_yields_to_want_of_memory.Goals as goal

pub returns-clause-memory : goal.returns-clause-memory
returns-clause-memory c = to_memory

pub returns-clause-moved : goal.returns-clause-moved
returns-clause-moved c = not_to_moved
