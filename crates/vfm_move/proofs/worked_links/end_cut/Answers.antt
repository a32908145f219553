-- The definitions compute.
use Rattle.std.proofs.Common.{ℕ, length, refl, ap, arith}
use Rattle.vfm_base.specs.Words.{word_at}
use Rattle.vfm_packet.specs.Header.{head_bytes}
use Rattle.vfm_packet.specs.Sound.{head_fault}
use Rattle.vfm_packet.specs.Answer.{decoded}
use Rattle.vfm_packet.specs.Channel.{channel_limit}
use Rattle.vfm_packet.specs.Reading.{reading_of}
use Rattle.vfm_move.proofs.worked_links.end_cut.Goals as goal

pub returns-clause-packets : goal.returns-clause-packets
unfolding reading_of decoded head_fault word_at channel_limit head_bytes
returns-clause-packets c = refl

pub returns-clause-piece : goal.returns-clause-piece
unfolding reading_of decoded head_fault word_at channel_limit head_bytes
returns-clause-piece c = refl

pub returns-clause-no_end : goal.returns-clause-no_end
unfolding reading_of decoded head_fault word_at channel_limit head_bytes
returns-clause-no_end c has = let long = ap (length {A = ℕ}) has in absurd (omega (arith, long))

pub returns-clause-not_come : goal.returns-clause-not_come
unfolding reading_of decoded head_fault word_at channel_limit head_bytes
returns-clause-not_come c has = let long = ap (length {A = ℕ}) has in absurd (omega (arith, long))
