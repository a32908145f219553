-- What follows changes no answer but More.
use Rattle.vfm_packet.proofs.Packets as packets
use Rattle.vfm_packet.proofs.laws.answer_stays.Goals as goal

pub returns : goal.returns
returns c e bytes more stays = packets.answer_stays e bytes more stays
