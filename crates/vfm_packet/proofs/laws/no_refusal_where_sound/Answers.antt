-- A channel is sound exactly where nothing is refused.
use Rattle.vfm_packet.proofs.Readings.{sound_reads, reads_sound}
use Rattle.vfm_packet.proofs.laws.no_refusal_where_sound.Goals as goal

pub returns-clause-sound : goal.returns-clause-sound
returns-clause-sound c limit e bytes packets is short = sound_reads limit e bytes packets is short

pub returns-clause-only : goal.returns-clause-only
returns-clause-only c limit e bytes fits none = reads_sound limit e bytes fits none
