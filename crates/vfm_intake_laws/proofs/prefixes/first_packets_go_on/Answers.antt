-- One index more.
use Rattle.vfm_intake_laws.proofs.Counting.{go_on}
use Rattle.vfm_intake_laws.proofs.prefixes.first_packets_go_on.Goals as goal

pub returns : goal.returns
returns c = go_on
