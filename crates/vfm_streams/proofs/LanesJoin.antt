-- The channels of what is sent come back together: each packet stands on one channel, once.
use Rattle.std.proofs.Common.{◌≡◌, ℕ, zero, suc, ◌+◌, ◌<◌, ◌≤◌, ◌==◌, ◌&&◌, Bool, true, false, inl, inr, if◌then◌else◌, List, [], ◌∷◌, ◌++◌, map, filter, reverse, None, refl, ap, sym, ◌∙◌, subst, arith, ⊎_elim, eqb-true, eq-eqb}
use Rattle.std.specs.List.{AllByRecursion, flat_map, range_with_len}
use Rattle.std.proofs.lemmas.Bool.{cond-true, cond-false, ne_eqb, cases_eq, and_parts, false≢true, true≢false}
use Rattle.std.proofs.lemmas.List.{map-append}
use Rattle.std.proofs.lemmas.List.Elements.{filter-append}
use Rattle.std.proofs.lemmas.List.Folds.{flat_map-map}
use Rattle.std.proofs.lemmas.Grind.{reverse_onto}
use Rattle.vfm_types.specs.declared.desc.Desc.{Desc}
use Rattle.vfm_packet.specs.Packet.{Packet}
use Rattle.vfm_packet.specs.Reading.{Reading}
use Rattle.vfm_send.specs.Lanes.{lane}
use Rattle.vfm_streams.specs.Sent.{Sent}
use Rattle.vfm_streams.specs.Packets.{packet_of, lane_of, lane_packets}
use Rattle.vfm_streams.specs.Whole.{stream_packets, times}
use Rattle.vfm_streams.specs.Brought.{times_sent, IsOfSent, BringsSent, lane_reading, lane_readings}
use Rattle.vfm_streams.specs.Verdict.{refused_channel, brought}
use Rattle.vfm_streams.proofs.Numbered.{by_bool}

-- ---- each packet is one that was sent

of_more : (D : Desc) (x : Sent) (all : List Sent) (packets : List Packet) → AllByRecursion (IsOfSent D all) packets → AllByRecursion (IsOfSent D (x ∷ all)) packets
of_more D x all [] each = tt
of_more D x all (p ∷ packets) each = (inr each.0, of_more D x all packets each.1)

of_both : (D : Desc) (all : List Sent) (first second : List Packet) → AllByRecursion (IsOfSent D all) first → AllByRecursion (IsOfSent D all) second
    → AllByRecursion (IsOfSent D all) (first ++ second)
of_both D all [] second a b = b
of_both D all (p ∷ first) second a b = (a.0, of_both D all first second a.1 b)

-- one record more on its lane, or beside it
pub lane_same : (D : Desc) (k : ℕ) (x : Sent) (all : List Sent) → (lane_of D x == k) ≡ true → lane_packets D k (x ∷ all) ≡ lane_packets D k all ++ packet_of D x ∷ []
lane_same D k x all same =
    ap (λ (xs : List Sent). map (packet_of D) (reverse xs)) (cond-true (lane_of D x == k) (x ∷ filter (λ y. lane_of D y == k) all) (filter (λ y. lane_of D y == k) all) same)
    ∙ ap (map (packet_of D)) (reverse_onto (filter (λ y. lane_of D y == k) all) x [])
    ∙ map-append (packet_of D) (reverse (filter (λ y. lane_of D y == k) all)) (x ∷ [])

pub lane_other : (D : Desc) (k : ℕ) (x : Sent) (all : List Sent) → (lane_of D x == k) ≡ false → lane_packets D k (x ∷ all) ≡ lane_packets D k all
lane_other D k x all other =
    ap (λ (xs : List Sent). map (packet_of D) (reverse xs)) (cond-false (lane_of D x == k) (x ∷ filter (λ y. lane_of D y == k) all) (filter (λ y. lane_of D y == k) all) other)

pub lane_of_sent : (D : Desc) (k : ℕ) (all : List Sent) → AllByRecursion (IsOfSent D all) (lane_packets D k all)
lane_of_sent D k [] = tt
lane_of_sent D k (x ∷ all) =
    by_bool (lane_of D x == k) (λ b. (lane_of D x == k) ≡ b → AllByRecursion (IsOfSent D (x ∷ all)) (lane_packets D k (x ∷ all)))
    (λ same e. subst (AllByRecursion (IsOfSent D (x ∷ all))) (sym (lane_same D k x all e))
    (of_both D (x ∷ all) (lane_packets D k all) (packet_of D x ∷ []) (of_more D x all (lane_packets D k all) (lane_of_sent D k all)) (inl refl, tt)))
    (λ other e. subst (AllByRecursion (IsOfSent D (x ∷ all))) (sym (lane_other D k x all e)) (of_more D x all (lane_packets D k all) (lane_of_sent D k all))) refl

lanes_of_sent : (D : Desc) (all : List Sent) (from n : ℕ) → AllByRecursion (IsOfSent D all) (flat_map (λ k. lane_packets D k all) (range_with_len from n))
lanes_of_sent D all from zero = tt
lanes_of_sent D all from (suc n) =
    of_both D all (lane_packets D from all) (flat_map (λ k. lane_packets D k all) (range_with_len (from + 1) n)) (lane_of_sent D from all) (lanes_of_sent D all (from + 1) n)

-- ---- and stands once

times_both : (i : ℕ) (first second : List Packet) → times i (first ++ second) ≡ times i first + times i second
times_both i [] second = omega arith
times_both i (p ∷ first) second =
    let rest : times i (first ++ second) ≡ times i first + times i second = times_both i first second in omega arith

stream_both : (s i : ℕ) (first second : List Packet)
    → times i (stream_packets s (first ++ second)) ≡ times i (stream_packets s first) + times i (stream_packets s second)
stream_both s i first second =
    ap (times i) (filter-append (λ (p : Packet). p.head.stream == s) first second) ∙ times_both i (stream_packets s first) (stream_packets s second)

-- whether a record is that of this stream and index
abbrev is_at : ℕ → ℕ → Sent → Bool
is_at s i x = x.stream == s && x.index == i

one_packet : (D : Desc) (s i : ℕ) (x : Sent) → times i (stream_packets s (packet_of D x ∷ [])) ≡ (if is_at s i x then 1 else 0)
one_packet D s i x =
    by_bool (x.stream == s) (λ b. times i (if b then packet_of D x ∷ [] else []) ≡ (if b && x.index == i then 1 else 0))
    (λ same. plus_none (if x.index == i then 1 else 0)) (λ other. refl)
  where
    plus_none : (n : ℕ) → 0 + n ≡ n
    plus_none n = omega arith

-- a record of this stream and index is on the lane that they have
at_home : (D : Desc) (s i : ℕ) (x : Sent) → is_at s i x ≡ true → lane_of D x ≡ lane s i D.channels
at_home D s i x here =
    let parts = and_parts (x.stream == s) (x.index == i) here in
    ap (λ (t : ℕ). lane t x.index D.channels) (eqb-true x.stream s parts.0) ∙ ap (λ (j : ℕ). lane s j D.channels) (eqb-true x.index i parts.1)

either : (n : ℕ) (b : Bool) → n ≡ (if b then n else n)
either n true = refl
either n false = refl

lane_times : (D : Desc) (s i k : ℕ) (all : List Sent)
    → times i (stream_packets s (lane_packets D k all)) ≡ (if lane s i D.channels == k then times_sent s i all else 0)
lane_times D s i k [] = either 0 (lane s i D.channels == k)
lane_times D s i k (x ∷ all) =
    by_bool (lane_of D x == k)
    (λ b. (lane_of D x == k) ≡ b → times i (stream_packets s (lane_packets D k (x ∷ all))) ≡ (if lane s i D.channels == k then times_sent s i all + (if is_at s i x then 1 else 0) else 0))
    (λ same e.
    ap (λ (ps : List Packet). times i (stream_packets s ps)) (lane_same D k x all e)
    ∙ stream_both s i (lane_packets D k all) (packet_of D x ∷ [])
    ∙ sums (times i (stream_packets s (lane_packets D k all))) (times i (stream_packets s (packet_of D x ∷ []))) (times_sent s i all)
    (lane s i D.channels == k) (is_at s i x) (lane_times D s i k all) (one_packet D s i x)
    (λ here. eq-eqb (lane s i D.channels) k (sym (at_home D s i x here) ∙ eqb-true (lane_of D x) k e)))
    (λ other e.
    ap (λ (ps : List Packet). times i (stream_packets s ps)) (lane_other D k x all e)
    ∙ lane_times D s i k all
    ∙ beside (times_sent s i all) (lane s i D.channels == k) (is_at s i x)
    (λ here. ap (λ (h : ℕ). h == k) (sym (at_home D s i x here)) ∙ e)) refl
  where
    sums : (before here sent : ℕ) (home at : Bool) → before ≡ (if home then sent else 0) → here ≡ (if at then 1 else 0) → (at ≡ true → home ≡ true)
        → before + here ≡ (if home then sent + (if at then 1 else 0) else 0)
    sums before here sent true at is_before is_here follows = ap₊ is_before is_here
      where
        ap₊ : before ≡ sent → here ≡ (if at then 1 else 0) → before + here ≡ sent + (if at then 1 else 0)
        ap₊ a b = omega arith
    sums before here sent false true is_before is_here follows = absurd (false≢true (follows refl))
    sums before here sent false false is_before is_here follows = omega arith

    beside : (sent : ℕ) (home at : Bool) → (at ≡ true → home ≡ false) → (if home then sent else 0) ≡ (if home then sent + (if at then 1 else 0) else 0)
    beside sent true true follows = absurd (true≢false (follows refl))
    beside sent true false follows = omega arith
    beside sent false at follows = refl

-- over lanes that begin above the home lane, or reach over it
lanes_above : (D : Desc) (s i : ℕ) (all : List Sent) (from n : ℕ) → lane s i D.channels < from
    → times i (stream_packets s (flat_map (λ k. lane_packets D k all) (range_with_len from n))) ≡ 0
lanes_above D s i all from zero above = refl
lanes_above D s i all from (suc n) above =
    let here : times i (stream_packets s (lane_packets D from all)) ≡ 0 =
    lane_times D s i from all ∙ ap (λ (b : Bool). if b then times_sent s i all else 0) (ne_eqb (lane s i D.channels) from (λ same. omega (arith, same))) in
    let rest : times i (stream_packets s (flat_map (λ k. lane_packets D k all) (range_with_len (from + 1) n))) ≡ 0 = lanes_above D s i all (from + 1) n (omega arith) in
    stream_both s i (lane_packets D from all) (flat_map (λ k. lane_packets D k all) (range_with_len (from + 1) n)) ∙ omega arith

lanes_over : (D : Desc) (s i : ℕ) (all : List Sent) (from n : ℕ) → from ≤ lane s i D.channels → lane s i D.channels < from + n
    → times i (stream_packets s (flat_map (λ k. lane_packets D k all) (range_with_len from n))) ≡ times_sent s i all
lanes_over D s i all from zero low high = absurd (omega arith)
lanes_over D s i all from (suc n) low high =
    stream_both s i (lane_packets D from all) (flat_map (λ k. lane_packets D k all) (range_with_len (from + 1) n))
    ∙ ⊎_elim
    (λ (home : lane s i D.channels ≡ from).
    let here : times i (stream_packets s (lane_packets D from all)) ≡ times_sent s i all =
    lane_times D s i from all ∙ ap (λ (b : Bool). if b then times_sent s i all else 0) (eq-eqb (lane s i D.channels) from home) in
    let rest : times i (stream_packets s (flat_map (λ k. lane_packets D k all) (range_with_len (from + 1) n))) ≡ 0 = lanes_above D s i all (from + 1) n (omega arith) in
    sum_first (times i (stream_packets s (lane_packets D from all))) (times i (stream_packets s (flat_map (λ k. lane_packets D k all) (range_with_len (from + 1) n)))) (times_sent s i all) here rest)
    (λ (away : lane s i D.channels ≡ from → ⊥).
    let here : times i (stream_packets s (lane_packets D from all)) ≡ 0 =
    lane_times D s i from all ∙ ap (λ (b : Bool). if b then times_sent s i all else 0) (ne_eqb (lane s i D.channels) from away) in
    let rest : times i (stream_packets s (flat_map (λ k. lane_packets D k all) (range_with_len (from + 1) n))) ≡ times_sent s i all =
    lanes_over D s i all (from + 1) n (grind (arith, away)) (omega arith) in
    sum_rest (times i (stream_packets s (lane_packets D from all))) (times i (stream_packets s (flat_map (λ k. lane_packets D k all) (range_with_len (from + 1) n)))) (times_sent s i all) here rest)
    (cases_eq (lane s i D.channels) from)
  where
    sum_first : (a b t : ℕ) → a ≡ t → b ≡ 0 → a + b ≡ t
    sum_first a b t x y = omega arith

    sum_rest : (a b t : ℕ) → a ≡ 0 → b ≡ t → a + b ≡ t
    sum_rest a b t x y = omega arith

-- all channels together bring what was sent
pub lanes_bring : (D : Desc) (all : List Sent) → 0 < D.channels → BringsSent D all (brought (lane_readings D all))
lanes_bring D all some =
    let together = flat_map-map (λ (r : Reading). r.packets) (lane_reading D all) (range_with_len 0 D.channels) in
    subst (BringsSent D all) (sym together)
    (record {
      each = lanes_of_sent D all 0 D.channels;
      once = λ s i. lanes_over D s i all 0 D.channels (omega arith) (omega arith);
    })

-- and none of them is refused
none_refused : (D : Desc) (all : List Sent) (limit k from n : ℕ) → refused_channel limit k (map (lane_reading D all) (range_with_len from n)) ≡ None
none_refused D all limit k from zero = refl
none_refused D all limit k from (suc n) = none_refused D all limit (k + 1) (from + 1) n

pub lanes_unrefused : (D : Desc) (all : List Sent) (limit : ℕ) → refused_channel limit 0 (lane_readings D all) ≡ None
lanes_unrefused D all limit = none_refused D all limit 0 0 D.channels
