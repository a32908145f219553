-- Packet by packet.
use Rattle.vfm_stream_laws.proofs.HowMuch.{short_share}
use Rattle.vfm_stream_laws.proofs.SoundChannels.{share_within}
use Rattle.vfm_stream_laws.proofs.sizes.channels_stay_below_limit.Goals as goal

pub returns-clause-below : goal.returns-clause-below
returns-clause-below c = short_share

pub returns-clause-within : goal.returns-clause-within
returns-clause-within c = share_within
