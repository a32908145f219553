-- As it is read.
use Rattle.vfm_move.proofs.Carrying.{sent_ends, share_packets}
use Rattle.vfm_move.proofs.complete.sent_channel_is_read.Goals as goal

pub returns-clause-packets : goal.returns-clause-packets
returns-clause-packets c = share_packets

pub returns-clause-piece : goal.returns-clause-piece
returns-clause-piece c = sent_ends
