-- By how far each state is on the way out and home.
use Rattle.vfm_laws.proofs.FewArcs.{few_arcs}
use Rattle.vfm_laws.proofs.bounds.arcs_are_few.Goals as goal

pub returns : goal.returns
returns c = few_arcs
