-- The reading goes on after the packets.
use Rattle.vfm_packet.proofs.Channels.{goes_on}
use Rattle.vfm_packet.proofs.Readings.{received}
use Rattle.vfm_packet.proofs.laws.reading_goes_on.Goals as goal

pub returns-clause-after : goal.returns-clause-after
returns-clause-after c packets limit e over place rest each = goes_on packets limit e over place rest each

pub returns-clause-received : goal.returns-clause-received
returns-clause-received c packets limit e rest each short = received packets limit e rest each short
