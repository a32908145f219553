-- Record by record.
use Rattle.vfm_streams.proofs.Numbered.{numbered_sent}
use Rattle.vfm_streams.proofs.lanes.what_is_sent_is_numbered.Goals as goal

pub returns : goal.returns
returns c = numbered_sent
