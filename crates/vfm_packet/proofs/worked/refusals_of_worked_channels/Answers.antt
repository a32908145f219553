-- The definitions compute.
use Rattle.std.proofs.Common.{refl}
use Rattle.vfm_base.specs.Words.{word_at}
use Rattle.vfm_packet.specs.Sound.{head_fault}
use Rattle.vfm_packet.specs.Answer.{decoded}
use Rattle.vfm_packet.specs.Reading.{reading_of}
use Rattle.vfm_packet.proofs.worked.refusals_of_worked_channels.Goals as goal

pub returns-clause-sound : goal.returns-clause-sound
unfolding reading_of decoded head_fault word_at
returns-clause-sound c = refl

pub returns-clause-sound_at_limit : goal.returns-clause-sound_at_limit
unfolding reading_of decoded head_fault word_at
returns-clause-sound_at_limit c = refl

pub returns-clause-bad_magic : goal.returns-clause-bad_magic
unfolding reading_of decoded head_fault word_at
returns-clause-bad_magic c = refl

pub returns-clause-bad_spare : goal.returns-clause-bad_spare
unfolding reading_of decoded head_fault word_at
returns-clause-bad_spare c = refl

pub returns-clause-aborted : goal.returns-clause-aborted
unfolding reading_of decoded head_fault word_at
returns-clause-aborted c = refl

pub returns-clause-truncated_header : goal.returns-clause-truncated_header
unfolding reading_of decoded head_fault word_at
returns-clause-truncated_header c = refl

pub returns-clause-truncated_payload : goal.returns-clause-truncated_payload
unfolding reading_of decoded head_fault word_at
returns-clause-truncated_payload c = refl

pub returns-clause-no_end : goal.returns-clause-no_end
unfolding reading_of decoded head_fault word_at
returns-clause-no_end c = refl

pub returns-clause-nothing : goal.returns-clause-nothing
unfolding reading_of decoded head_fault word_at
returns-clause-nothing c = refl

pub returns-clause-after_end : goal.returns-clause-after_end
unfolding reading_of decoded head_fault word_at
returns-clause-after_end c = refl

pub returns-clause-after_end_below_limit : goal.returns-clause-after_end_below_limit
unfolding reading_of decoded head_fault word_at
returns-clause-after_end_below_limit c = refl

pub returns-clause-too_long_at_end : goal.returns-clause-too_long_at_end
unfolding reading_of decoded head_fault word_at
returns-clause-too_long_at_end c = refl

pub returns-clause-too_long_after_limit : goal.returns-clause-too_long_after_limit
unfolding reading_of decoded head_fault word_at
returns-clause-too_long_after_limit c = refl

pub returns-clause-too_long_header : goal.returns-clause-too_long_header
unfolding reading_of decoded head_fault word_at
returns-clause-too_long_header c = refl

pub returns-clause-too_long_payload : goal.returns-clause-too_long_payload
unfolding reading_of decoded head_fault word_at
returns-clause-too_long_payload c = refl

pub returns-clause-bad_before_limit : goal.returns-clause-bad_before_limit
unfolding reading_of decoded head_fault word_at
returns-clause-bad_before_limit c = refl
