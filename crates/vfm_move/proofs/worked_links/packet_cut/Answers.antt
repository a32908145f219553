-- The definitions compute.
use Rattle.std.proofs.Common.{◌≡◌, ℕ, List, slice_index, refl, ap, arith}
use Rattle.vfm_base.specs.Words.{word_at}
use Rattle.vfm_packet.specs.Header.{head_bytes}
use Rattle.vfm_packet.specs.Sound.{head_fault}
use Rattle.vfm_packet.specs.Answer.{decoded}
use Rattle.vfm_packet.specs.Channel.{channel_limit}
use Rattle.vfm_packet.specs.Reading.{reading_of}
use Rattle.vfm_move.proofs.worked_links.packet_cut.Goals as goal

pub returns-clause-packets : goal.returns-clause-packets
unfolding reading_of decoded head_fault word_at channel_limit head_bytes
returns-clause-packets c = refl

pub returns-clause-piece : goal.returns-clause-piece
unfolding reading_of decoded head_fault word_at channel_limit head_bytes
returns-clause-piece c = refl

pub returns-clause-no_end : goal.returns-clause-no_end
unfolding reading_of decoded head_fault word_at channel_limit head_bytes
returns-clause-no_end c has =
    let kind : 2 ≡ 3 = ap (λ (bytes : List ℕ). slice_index bytes 7) has in absurd (omega (arith, kind))
