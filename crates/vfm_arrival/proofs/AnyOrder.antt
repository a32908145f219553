-- Packets that came in any order bring what was sent, where it is the same packets.
use Rattle.std.proofs.Common.{◌≡◌, ℕ, ◌+◌, ◌==◌, true, if◌then◌else◌, List, [], ◌∷◌, map, None, refl, sym, ◌∙◌, arith}
use Rattle.std.specs.List.{sum_by}
use Rattle.std.specs.List.Sorted.{IsPermutation}
use Rattle.std.proofs.lemmas.List.Elements.{All-from_recursion, recursion_from_All}
use Rattle.std.proofs.lemmas.List.Sorted.{All-permutation, IsPermutation-sym, sum_by-IsPermutation}
use Rattle.std.proofs.lemmas.List.Sums.{sum_by-cons}
use Rattle.vfm_types.specs.declared.desc.Desc.{Desc}
use Rattle.vfm_types.specs.declared.entry.Entry.{Entry}
use Rattle.vfm_types.specs.Deliveries.{joint_machine}
use Rattle.vfm_types.specs.Phases.{is_last_begun}
use Rattle.vfm_types.specs.Blocks.{is_no_pass_open}
use Rattle.vfm_types.specs.Valid.{IsValid}
use Rattle.vfm_plain.specs.Legal.{IsLegal}
use Rattle.vfm_packet.specs.declared.answer.Expect.{Expect}
use Rattle.vfm_packet.specs.Packet.{Packet}
use Rattle.vfm_packet.specs.Channel.{channel_limit}
use Rattle.vfm_packet.specs.Reading.{reading}
use Rattle.vfm_streams.specs.Sent.{Sent, sent}
use Rattle.vfm_streams.specs.Whole.{stream_packets, times}
use Rattle.vfm_streams.specs.Brought.{BringsSent, IsOfSent, lane_readings}
use Rattle.vfm_streams.specs.Verdict.{Loads, brought, refused_channel, verdict}
use Rattle.vfm_streams.proofs.LanesJoin.{lanes_bring}
use Rattle.vfm_streams.proofs.Numbered.{by_bool}
use Rattle.vfm_stream_laws.proofs.SoundChannels.{bytes_verdict}

-- 1 for a packet of this stream and index, 0 for another
abbrev count_at : ℕ → ℕ → Packet → ℕ
count_at s i p = if p.head.stream == s then (if p.head.index == i then 1 else 0) else 0

-- how often an index stands in a stream, packet by packet
times_are : (s i : ℕ) (packets : List Packet) → times i (stream_packets s packets) ≡ sum_by (count_at s i) packets
times_are s i [] = refl
times_are s i (p ∷ packets) =
    by_bool (p.head.stream == s)
    (λ b. times i (if b then p ∷ stream_packets s packets else stream_packets s packets)
    ≡ (if b then (if p.head.index == i then 1 else 0) else 0) + sum_by (count_at s i) packets)
    (λ same. let rest = times_are s i packets in omega arith) (λ other. let rest = times_are s i packets in omega arith)
    ∙ sym (sum_by-cons (count_at s i) p packets)

brings_same : (D : Desc) (all : List Sent) (came packets : List Packet) → IsPermutation came packets
    → BringsSent D all packets
    → BringsSent D all came
brings_same D all came packets order brings =
    record {
      each = recursion_from_All (IsOfSent D all) came
          (All-permutation (IsOfSent D all) packets came (IsPermutation-sym came packets order)
          (All-from_recursion (IsOfSent D all) packets brings.each));
      once = λ s i.
          times_are s i came ∙ sym (sum_by-IsPermutation (count_at s i) came packets order)
          ∙ sym (times_are s i packets) ∙ brings.once s i;
    }

-- the verdict on channels none of which is refused, and which bring in any order what all channels of the source sent
pub any_order_verdict : (D : Desc) (past : List Entry) (e : Expect) (channels : List (List ℕ)) → IsValid D
    → IsLegal D past
    → is_last_begun past ≡ true → is_no_pass_open D past ≡ true
    → refused_channel channel_limit 0 (map (reading e) channels) ≡ None
    → IsPermutation (brought (map (reading e) channels)) (brought (lane_readings D (sent D past)))
    → verdict D e channels ≡ Loads (joint_machine D past)
any_order_verdict D past e channels valid legal last ended unrefused order =
    bytes_verdict D past e channels valid legal last ended unrefused
    (brings_same D (sent D past) (brought (map (reading e) channels)) (brought (lane_readings D (sent D past))) order
    (lanes_bring D (sent D past) valid.in_range.channels_low))
