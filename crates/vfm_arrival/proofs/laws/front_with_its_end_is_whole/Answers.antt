-- By what is judged.
use Rattle.vfm_arrival.proofs.Fronts.{front_whole, not_over}
use Rattle.vfm_arrival.proofs.laws.front_with_its_end_is_whole.Goals as goal

pub returns-clause-within : goal.returns-clause-within
returns-clause-within c = not_over

pub returns-clause-whole : goal.returns-clause-whole
returns-clause-whole c = front_whole
