-- How many bytes all channels of a source carry together.
use Rattle.std.proofs.Common.{◌≡◌, ℕ, zero, suc, ◌+◌, ◌<◌, ◌≤◌, ◌==◌, List, [], ◌∷◌, ◌++◌, length, refl, ap, ◌∙◌, arith, append-nil, eqb-true}
use Rattle.std.specs.List.{flat_map, range_with_len}
use Rattle.std.proofs.lemmas.Bool.{ne_eqb}
use Rattle.std.proofs.lemmas.List.{length-append}
use Rattle.std.proofs.lemmas.List.Concat.{flat_map-append}
use Rattle.std.proofs.lemmas.List.Folds.{flat_map-map}
use Rattle.vfm_types.specs.declared.desc.Desc.{Desc}
use Rattle.vfm_types.specs.declared.entry.Entry.{Entry}
use Rattle.vfm_types.specs.Valid.{IsValid}
use Rattle.vfm_plain.specs.Legal.{IsLegal}
use Rattle.vfm_packet.specs.Packet.{Packet, packet_bytes}
use Rattle.vfm_packet.specs.Channel.{all_bytes}
use Rattle.vfm_packet.specs.Reading.{Reading}
use Rattle.vfm_record.specs.Record.{record_size}
use Rattle.vfm_streams.specs.Sent.{Sent, sent}
use Rattle.vfm_streams.specs.Packets.{lane_of, lane_packets, packet_of}
use Rattle.vfm_streams.specs.Brought.{lane_reading, lane_readings}
use Rattle.vfm_streams.specs.Verdict.{brought}
use Rattle.vfm_streams.proofs.Costs.{cost_of, packet_cost}
use Rattle.vfm_streams.proofs.LanesJoin.{lane_other, lane_same}
use Rattle.vfm_streams.proofs.Numbered.{by_bool}
use Rattle.vfm_stream_laws.proofs.HowMuch.{sent_cost}

-- how many bytes n channels carry, from this one on
abbrev carried : Desc → List Sent → ℕ → ℕ → ℕ
carried D all from n = length (all_bytes (flat_map (λ k. lane_packets D k all) (range_with_len from n)))

both_long : (first second : List Packet)
    → length (all_bytes (first ++ second)) ≡ length (all_bytes first) + length (all_bytes second)
both_long first second =
    ap (length {A = ℕ}) (flat_map-append packet_bytes first second) ∙ length-append (all_bytes first) (all_bytes second)

one_long : (p : Packet) → length (all_bytes (p ∷ [])) ≡ length (packet_bytes p)
one_long p = ap (length {A = ℕ}) (append-nil (packet_bytes p))

next_long : (D : Desc) (all : List Sent) (from n : ℕ)
    → carried D all from (suc n) ≡ length (all_bytes (lane_packets D from all)) + carried D all (from + 1) n
next_long D all from n = both_long (lane_packets D from all)
    (flat_map (λ k. lane_packets D k all) (range_with_len (from + 1) n))

-- a record of an earlier channel isn't among them
earlier : (D : Desc) (x : Sent) (all : List Sent) (from n : ℕ) → lane_of D x < from
    → carried D (x ∷ all) from n ≡ carried D all from n
earlier D x all from zero before = refl
earlier D x all from (suc n) before =
    let rest : carried D (x ∷ all) (from + 1) n ≡ carried D all (from + 1) n =
    earlier D x all (from + 1) n (omega arith) in
    let here : length (all_bytes (lane_packets D from (x ∷ all))) ≡ length (all_bytes (lane_packets D from all)) =
    ap (λ (ps : List Packet). length (all_bytes ps))
    (lane_other D from x all (ne_eqb (lane_of D x) from (λ same. omega (arith, same)))) in
    let longer = next_long D (x ∷ all) from n in
    let shorter = next_long D all from n in
    omega arith

-- a record more is carried by one channel at the most
one_more : (D : Desc) (x : Sent) (all : List Sent) (from n : ℕ)
    → carried D (x ∷ all) from n ≤ carried D all from n + (72 + record_size x.says)
one_more D x all from zero = omega arith
one_more D x all from (suc n) =
    let longer = next_long D (x ∷ all) from n in
    let shorter = next_long D all from n in
    by_bool (lane_of D x == from)
    (λ b. (lane_of D x == from) ≡ b
    → carried D (x ∷ all) from (suc n) ≤ carried D all from (suc n) + (72 + record_size x.says))
    (λ same e.
    let rest : carried D (x ∷ all) (from + 1) n ≡ carried D all (from + 1) n =
    earlier D x all (from + 1) n (omega (arith, eqb-true (lane_of D x) from e)) in
    let here : length (all_bytes (lane_packets D from (x ∷ all)))
    ≡ length (all_bytes (lane_packets D from all)) + length (packet_bytes (packet_of D x)) =
    ap (λ (ps : List Packet). length (all_bytes ps)) (lane_same D from x all e)
    ∙ both_long (lane_packets D from all) (packet_of D x ∷ [])
    ∙ ap (λ (k : ℕ). length (all_bytes (lane_packets D from all)) + k) (one_long (packet_of D x)) in
    omega (arith, packet_cost D x))
    (λ other e.
    let rest : carried D (x ∷ all) (from + 1) n ≤ carried D all (from + 1) n + (72 + record_size x.says) =
    one_more D x all (from + 1) n in
    let here : length (all_bytes (lane_packets D from (x ∷ all))) ≡ length (all_bytes (lane_packets D from all)) =
    ap (λ (ps : List Packet). length (all_bytes ps)) (lane_other D from x all e) in
    omega arith) refl

none_carried : (D : Desc) (from n : ℕ) → carried D [] from n ≡ 0
none_carried D from zero = refl
none_carried D from (suc n) = none_carried D (from + 1) n

all_cost : (D : Desc) (all : List Sent) (n : ℕ) → carried D all 0 n ≤ cost_of all
all_cost D [] n = omega (arith, none_carried D 0 n)
all_cost D (x ∷ all) n =
    let before : carried D all 0 n ≤ cost_of all = all_cost D all n in
    let more : carried D (x ∷ all) 0 n ≤ carried D all 0 n + (72 + record_size x.says) = one_more D x all 0 n in
    omega arith

-- all channels together stay below the limit of one
pub together_short : (D : Desc) (past : List Entry) → IsValid D → IsLegal D past
    → length (all_bytes (brought (lane_readings D (sent D past)))) < 53000000
together_short D past valid legal =
    let joined : length (all_bytes (brought (lane_readings D (sent D past)))) ≡ carried D (sent D past) 0 D.channels =
    ap (λ (ps : List Packet). length (all_bytes ps))
    (flat_map-map (λ (r : Reading). r.packets) (lane_reading D (sent D past)) (range_with_len 0 D.channels)) in
    let few : carried D (sent D past) 0 D.channels ≤ cost_of (sent D past) = all_cost D (sent D past) D.channels in
    let cost : cost_of (sent D past) ≤ 52063985 = (sent_cost D valid past legal).0 in
    omega arith
