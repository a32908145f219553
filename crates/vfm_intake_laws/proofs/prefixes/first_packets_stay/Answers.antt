-- Index by index.
use Rattle.vfm_intake_laws.proofs.Counting.{stay}
use Rattle.vfm_intake_laws.proofs.prefixes.first_packets_stay.Goals as goal

pub returns : goal.returns
returns c = stay
