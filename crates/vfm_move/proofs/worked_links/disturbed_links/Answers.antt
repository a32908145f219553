-- By how many packets came and which, and by what stands behind them.
use Rattle.std.proofs.Common.{◌≡◌, ℕ, ◌+◌, ◌++◌, ◌∷◌, [], true, List, length, take, slice_index, refl, ap, ◌∙◌, arith}
use Rattle.std.specs.Prelude.{All}
use Rattle.std.specs.List.{sum_by}
use Rattle.std.proofs.lemmas.List.Elements.{All-cons, All-nil}
use Rattle.std.proofs.lemmas.List.Sorted.{length_permutation, sum_by-IsPermutation}
use Rattle.std.proofs.lemmas.List.Sums.{sum_by-append}
use Rattle.vfm_base.specs.Words.{word_at}
use Rattle.vfm_packet.specs.Header.{head_bytes}
use Rattle.vfm_packet.specs.Packet.{Packet}
use Rattle.vfm_packet.specs.Sound.{head_fault}
use Rattle.vfm_packet.specs.Answer.{decoded}
use Rattle.vfm_packet.specs.Channel.{channel_limit}
use Rattle.vfm_packet.specs.Reading.{reading_of}
use Rattle.vfm_packet.specs.Worked.{config_packet, data_packet, end_packet}
use Rattle.vfm_move.specs.Contact.{Line, Lines}
use Rattle.vfm_move.specs.Complete.{CarryAll, packets_received, packets_sent}
use Rattle.vfm_move.specs.Worked.{one}
use Rattle.vfm_move.specs.WorkedLinks.{links, receives, sends, whole_bytes}
use Rattle.vfm_move.proofs.worked_links.disturbed_links.Goals as goal

-- what was received and what is missing is as much as what was sent
count : (lines : Lines) (all : CarryAll one lines)
    → length (packets_sent one lines) ≡ length (packets_received one lines ++ all.missing)
count lines all = length_permutation (packets_received one lines ++ all.missing) (packets_sent one lines) all.among

-- the first byte of a payload
first_byte : Packet → ℕ
first_byte p = slice_index p.payload 0

sums : (lines : Lines) (all : CarryAll one lines)
    → sum_by first_byte (packets_sent one lines)
    ≡ sum_by first_byte (packets_received one lines) + sum_by first_byte all.missing
sums lines all =
    sum_by-IsPermutation first_byte (packets_received one lines ++ all.missing) (packets_sent one lines) all.among
    ∙ sum_by-append first_byte (packets_received one lines) all.missing

only_ended : (bytes : List ℕ) → All (λ line. line.ended ≡ true) (receives bytes ∷ [])
only_ended bytes =
    All-cons (λ (line : Line). line.ended ≡ true) (receives bytes) [] refl (All-nil (λ (line : Line). line.ended ≡ true))

pub returns-clause-doubled : goal.returns-clause-doubled
unfolding reading_of decoded head_fault word_at channel_limit head_bytes
returns-clause-doubled c all =
    let same = count (links (sends (data_packet ++ end_packet) ∷ [])
    (receives (data_packet ++ data_packet ++ end_packet) ∷ [])) all in
    absurd (omega (arith, same))

pub returns-clause-lost : goal.returns-clause-lost
unfolding reading_of decoded head_fault word_at channel_limit head_bytes
returns-clause-lost c all =
    let same = count (links (sends whole_bytes ∷ []) (receives (data_packet ++ end_packet) ∷ [])) all in
    let none : length all.missing ≡ 0 = ap (length {A = Packet}) (all.all (only_ended (data_packet ++ end_packet))) in
    absurd (omega (arith, same, none))

pub returns-clause-other : goal.returns-clause-other
unfolding reading_of decoded head_fault word_at channel_limit head_bytes first_byte
returns-clause-other c all =
    let same = sums (links (sends (data_packet ++ end_packet) ∷ [])
    (receives (config_packet ++ end_packet) ∷ [])) all in
    absurd (omega (arith, same))

pub returns-clause-no_end : goal.returns-clause-no_end
unfolding reading_of decoded head_fault word_at channel_limit head_bytes
returns-clause-no_end c all =
    let long = ap (length {A = ℕ}) (all.ends 0 (receives (take 83 whole_bytes)) (omega arith) refl) in
    absurd (omega (arith, long))

pub returns-clause-cut : goal.returns-clause-cut
unfolding reading_of decoded head_fault word_at channel_limit head_bytes
returns-clause-cut c all =
    let kind : 2 ≡ 3 = ap (λ (bytes : List ℕ). slice_index bytes 7)
    (all.ends 0 (receives (take 82 whole_bytes)) (omega arith) refl) in
    absurd (omega (arith, kind))
