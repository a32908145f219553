-- Channel by channel.
use Rattle.vfm_streams.proofs.LanesJoin.{lanes_bring, lanes_unrefused}
use Rattle.vfm_streams.proofs.lanes.channels_bring_all_that_is_sent.Goals as goal

pub returns-clause-brings : goal.returns-clause-brings
returns-clause-brings c = lanes_bring

pub returns-clause-unrefused : goal.returns-clause-unrefused
returns-clause-unrefused c = lanes_unrefused
