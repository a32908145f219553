-- Packet by packet.
use Rattle.vfm_stream_laws.proofs.SoundChannels.{share_reads, sound_share}
use Rattle.vfm_stream_laws.proofs.verdict.ended_share_is_sound_channel.Goals as goal

pub returns-clause-sound : goal.returns-clause-sound
returns-clause-sound c = sound_share

pub returns-clause-read : goal.returns-clause-read
returns-clause-read c = share_reads
