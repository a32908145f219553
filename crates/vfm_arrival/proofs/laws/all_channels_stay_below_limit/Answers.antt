-- Record by record.
use Rattle.vfm_arrival.proofs.AllChannels.{together_short}
use Rattle.vfm_arrival.proofs.laws.all_channels_stay_below_limit.Goals as goal

pub returns : goal.returns
returns c = together_short
