-- By the condition of a fail, and the arcs behind a state.
use Rattle.vfm_move_laws.proofs.FailedArcs.{fails_of_device, fails_some, fails_on_the_way}
use Rattle.vfm_move_laws.proofs.fails.arcs_fail_as_described.Goals as goal

pub returns-clause-device : goal.returns-clause-device
returns-clause-device c = fails_of_device

pub returns-clause-some : goal.returns-clause-some
returns-clause-some c = fails_some

pub returns-clause-on_the_way : goal.returns-clause-on_the_way
returns-clause-on_the_way c = fails_on_the_way
