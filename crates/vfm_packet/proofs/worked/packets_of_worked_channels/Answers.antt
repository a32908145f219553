-- The definitions compute.
use Rattle.std.proofs.Common.{refl}
use Rattle.vfm_base.specs.Words.{word_at}
use Rattle.vfm_packet.specs.Sound.{head_fault}
use Rattle.vfm_packet.specs.Answer.{decoded}
use Rattle.vfm_packet.specs.Reading.{reading_of}
use Rattle.vfm_packet.proofs.worked.packets_of_worked_channels.Goals as goal

pub returns-clause-sound : goal.returns-clause-sound
unfolding reading_of decoded head_fault word_at
returns-clause-sound c = refl

pub returns-clause-numbers : goal.returns-clause-numbers
unfolding reading_of decoded head_fault word_at
returns-clause-numbers c = refl

pub returns-clause-refused : goal.returns-clause-refused
unfolding reading_of decoded head_fault word_at
returns-clause-refused c = refl
