-- By induction over the list.
use Rattle.vfm_laws.proofs.KeptStates.{keeps_states}
use Rattle.vfm_laws.proofs.states.states_are_kept.Goals as goal

pub returns : goal.returns
returns c = keeps_states
