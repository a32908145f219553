-- The limit as a number.
use Rattle.std.proofs.Common.{refl}
use Rattle.vfm_packet.specs.Channel.{channel_limit}
use Rattle.vfm_packet.proofs.laws.limit_of_a_channel.Goals as goal

pub returns-clause-limit : goal.returns-clause-limit
unfolding channel_limit
returns-clause-limit c = refl

pub returns-clause-reading : goal.returns-clause-reading
returns-clause-reading c e bytes = refl
