-- There is a reading, and no other.
use Rattle.vfm_packet.proofs.Channels.{is_the_reading}
use Rattle.vfm_packet.proofs.Readings.{reads_channel}
use Rattle.vfm_packet.proofs.laws.one_reading.Goals as goal

pub returns-clause-some : goal.returns-clause-some
returns-clause-some c limit e bytes fits = reads_channel limit e bytes fits

pub returns-clause-only : goal.returns-clause-only
returns-clause-only c limit e bytes packets refusal is = is_the_reading limit e bytes packets refusal is
