-- What is judged, and what isn't looked at.
use Rattle.vfm_packet.proofs.Readings.{judged_prefix, judged_all}
use Rattle.vfm_packet.proofs.laws.judged_to_the_limit.Goals as goal

pub returns-clause-prefix : goal.returns-clause-prefix
returns-clause-prefix c limit e bytes = judged_prefix limit e bytes

pub returns-clause-all : goal.returns-clause-all
returns-clause-all c limit bytes short = judged_all limit bytes short
