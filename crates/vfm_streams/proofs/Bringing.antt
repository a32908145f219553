-- Packets that are among those sent, none twice and none missing, bring what was sent.
use Rattle.std.proofs.Common.{◌≡◌, ℕ, ◌+◌, ◌<◌, ◌≤◌, ◌==◌, ◌&&◌, if◌then◌else◌, List, [], ◌∷◌, length, refl, subst, arith, ⊎_elim, eqb-true}
use Rattle.std.specs.List.{AllByRecursion}
use Rattle.std.proofs.lemmas.Bool.{and_parts, cases_lt}
use Rattle.vfm_types.specs.declared.desc.Desc.{Desc}
use Rattle.vfm_packet.specs.Packet.{Packet}
use Rattle.vfm_record.specs.Record.{Config}
use Rattle.vfm_streams.specs.Sent.{Sent, IsNumbered, records_of}
use Rattle.vfm_streams.specs.Whole.{stream_packets, times}
use Rattle.vfm_streams.specs.Brought.{times_sent, IsOfSent, BringsSent}
use Rattle.vfm_streams.proofs.Numbered.{by_bool, in_turn, count_is, times_below, times_above, turn_of}

-- what was sent came
came : (s i : ℕ) (all : List Sent) (packets : List Packet) → AllByRecursion (λ x. 0 < times x.index (stream_packets x.stream packets)) all
    → 0 < times_sent s i all → 0 < times i (stream_packets s packets)
came s i [] packets none_missing some = absurd (omega arith)
came s i (x ∷ all) packets none_missing some =
    by_bool (x.stream == s && x.index == i)
    (λ b. (x.stream == s && x.index == i) ≡ b → 0 < times_sent s i all + (if b then 1 else 0) → 0 < times i (stream_packets s packets))
    (λ here e h.
    let parts = and_parts (x.stream == s) (x.index == i) e in
    subst (λ (t : ℕ). 0 < times i (stream_packets t packets)) (eqb-true x.stream s parts.0)
    (subst (λ (j : ℕ). 0 < times j (stream_packets x.stream packets)) (eqb-true x.index i parts.1) none_missing.0))
    (λ other e h. came s i all packets none_missing.1 (omega arith)) refl some

-- and what came was sent
came_from : (D : Desc) (s i : ℕ) (all : List Sent) (packets : List Packet) → IsNumbered all → AllByRecursion (IsOfSent D all) packets
    → 0 < times i (stream_packets s packets) → i < length (in_turn s all)
came_from D s i all [] numbered each some = absurd (omega arith)
came_from D s i all (p ∷ packets) numbered each some =
    by_bool (p.head.stream == s)
    (λ b. (p.head.stream == s) ≡ b → 0 < times i (if b then p ∷ stream_packets s packets else stream_packets s packets) → i < length (in_turn s all))
    (λ same e h.
    by_bool (p.head.index == i)
    (λ c. (p.head.index == i) ≡ c → 0 < times i (stream_packets s packets) + (if c then 1 else 0) → i < length (in_turn s all))
    (λ equal f g.
    (turn_of D s i (record { stream = 0; index = 0; says = Config [] }) all p numbered each.0 (eqb-true p.head.stream s e) (eqb-true p.head.index i f)).0)
    (λ differs f g. came_from D s i all packets numbered each.1 (omega arith)) refl h)
    (λ other e h. came_from D s i all packets numbered each.1 h) refl some

pub brings_from : (D : Desc) (all : List Sent) (packets : List Packet) → IsNumbered all → AllByRecursion (IsOfSent D all) packets
    → ((s i : ℕ) → times i (stream_packets s packets) ≤ 1) → AllByRecursion (λ x. 0 < times x.index (stream_packets x.stream packets)) all
    → BringsSent D all packets
brings_from D all packets numbered each once none_missing = record { each = each; once = exact }
  where
    exact : (s i : ℕ) → times i (stream_packets s packets) ≡ times_sent s i all
    exact s i =
        ⊎_elim
        (λ (low : i < length (records_of s all)).
        let one : times_sent s i all ≡ 1 = times_below s i all numbered low in
        let some : 0 < times i (stream_packets s packets) = came s i all packets none_missing (omega arith) in
        let most : times i (stream_packets s packets) ≤ 1 = once s i in omega arith)
        (λ (high : length (records_of s all) ≤ i).
        let none : times_sent s i all ≡ 0 = times_above s i all numbered high in
        let count : length (in_turn s all) ≡ length (records_of s all) = count_is s all in
        ⊎_elim
        (λ (some : 0 < times i (stream_packets s packets)).
        let low : i < length (in_turn s all) = came_from D s i all packets numbered each some in absurd (omega arith))
        (λ (nothing : times i (stream_packets s packets) ≤ 0). omega arith)
        (cases_lt 0 (times i (stream_packets s packets)))) (cases_lt i (length (records_of s all)))
