-- Index by index.
use Rattle.vfm_streams.proofs.Bringing.{brings_from}
use Rattle.vfm_streams.proofs.lanes.packets_once_each_bring_all_that_is_sent.Goals as goal

pub returns : goal.returns
returns c = brings_from
