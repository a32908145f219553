-- The same packets in another order have the same gaps, and where they have none, the same records.
use Rattle.std.proofs.Common.{◌≡◌, ◌∙◌, refl, sym, ap, ap₂, subst, ℕ, zero, suc, ◌+◌, ◌<◌, ◌≤◌, ◌==◌, ◌&&◌, if◌then◌else◌, nat_lt, Bool, true, false, List, [], ◌∷◌, map, Option, Some, None, unwrap_or, arith, ⊎_elim}
use Rattle.std.specs.Prelude.{reverse}
use Rattle.std.specs.Option.{option_or, option_map}
use Rattle.std.specs.List.{range_with_len}
use Rattle.std.proofs.lemmas.Bool.{cases_lt, lt-ltb}
use Rattle.vfm_base.specs.Least.{least_from, least_below}
use Rattle.vfm_types.specs.declared.desc.Desc.{Desc}
use Rattle.vfm_types.specs.declared.fault.Refusal.{Refusal}
use Rattle.vfm_packet.specs.Packet.{Packet}
use Rattle.vfm_record.specs.Packing.{end_of}
use Rattle.vfm_record.specs.Tests.{record_at}
use Rattle.vfm_streams.specs.Whole.{StreamFault, Doubled, Past, NoConfig, Missing, stream_packets, times, packet_with, top, has_config_at, config_index, gap_by_config, gap_of, in_order}
use Rattle.vfm_streams.specs.Judged.{bad_record, config_differs, lacks, said, load_fault, stream_fault}
use Rattle.vfm_streams.specs.Whole.{NotWhole}
use Rattle.vfm_streams.specs.Verdict.{stream_refusal, refused_stream}
use Rattle.vfm_streams.proofs.Gaps.{times_top, below_top}
use Rattle.vfm_streams.proofs.Numbered.{by_bool}
use Rattle.vfm_intake_laws.specs.Arrivals.{IsSameStream}
use Rattle.vfm_intake_laws.specs.Refused.{refused_of}
use Rattle.vfm_intake_laws.proofs.Counting.{map-same}

-- ---- least numbers

least-same : (n i : ℕ) (f g : ℕ → Bool) → ((k : ℕ) → f k ≡ g k) → least_from i n f ≡ least_from i n g
least-same zero i f g same = refl
least-same (suc n) i f g same = ap₂ (λ (b : Bool) (o : Option ℕ). if b then Some i else o) (same i) (least-same n (i + 1) f g same)

none-passes : (n i : ℕ) (f : ℕ → Bool) → least_from i n f ≡ None → (k : ℕ) → i ≤ k → k < i + n → f k ≡ false
none-passes zero i f none k low high = absurd (omega (arith, low, high))
none-passes (suc n) i f none k low high =
    by_bool (f i) (λ b. f i ≡ b → (if b then Some i else least_from (i + 1) n f) ≡ None → f k ≡ false)
    (λ here e h. let clash : Some i ≡ None = h in absurd cc)
    (λ away e h.
    ⊎_elim (λ (more : i < k). none-passes n (i + 1) f h k (omega (arith, more)) (omega (arith, high)))
    (λ (own : k ≤ i). subst (λ (m : ℕ). f m ≡ false) (same own) e) (cases_lt i k)) refl none
  where
    same : k ≤ i → i ≡ k
    same own = omega (arith, own, low)

-- ---- the same gap

top-most : (a b : List Packet) → ((i : ℕ) → times i a ≡ times i b) → top a ≤ top b
top-most a b same = at (top a) refl
  where
    at : (t : ℕ) → top a ≡ t → top a ≤ top b
    at zero is = omega (arith, is)
    at (suc t) is =
        let some : 0 < times t a = times_top a t is in
        let there : 0 < times t b = omega (arith, some, same t) in
        let low : t < top b = below_top b t there in omega (arith, is, low)

pub top-same : (a b : List Packet) → ((i : ℕ) → times i a ≡ times i b) → top a ≡ top b
top-same a b same =
    let one : top a ≤ top b = top-most a b same in
    let other : top b ≤ top a = top-most b a (λ i. sym (same i)) in omega (arith, one, other)

by-config : (a b : List Packet) → IsSameStream a b → (o : Option ℕ) → gap_by_config a o ≡ gap_by_config b o
by-config a b same None = refl
by-config a b same (Some last) =
    ap₂ (λ (past missing : Option ℕ). option_or (option_map Past past) (option_map Missing missing))
    (ap (λ (n : ℕ). least_below n (λ i. nat_lt last i && nat_lt 0 (times i a))) (top-same a b same.times_are)
    ∙ least-same (top b) 0 (λ i. nat_lt last i && nat_lt 0 (times i a)) (λ i. nat_lt last i && nat_lt 0 (times i b))
    (λ k. ap (λ (n : ℕ). nat_lt last k && nat_lt 0 n) (same.times_are k)))
    (least-same last 0 (λ i. times i a == 0) (λ i. times i b == 0) (λ k. ap (λ (n : ℕ). n == 0) (same.times_are k)))

config-same : (a b : List Packet) → IsSameStream a b → config_index a ≡ config_index b
config-same a b same =
    ap (λ (n : ℕ). least_below n (λ i. has_config_at i a)) (top-same a b same.times_are)
    ∙ least-same (top b) 0 (λ i. has_config_at i a) (λ i. has_config_at i b) same.configs

pub gap-same : (a b : List Packet) → IsSameStream a b → gap_of a ≡ gap_of b
gap-same a b same =
    ap₂ (λ (doubled : Option ℕ) (gap : Option StreamFault). option_or (option_map Doubled doubled) gap)
    (ap (λ (n : ℕ). least_below n (λ i. nat_lt 1 (times i a))) (top-same a b same.times_are)
    ∙ least-same (top b) 0 (λ i. nat_lt 1 (times i a)) (λ i. nat_lt 1 (times i b)) (λ k. ap (nat_lt 1) (same.times_are k)))
    (by-config a b same (config_index a) ∙ ap (gap_by_config b) (config-same a b same))

-- ---- where there is no gap, each index stands at most once

undoubled : (o : Option ℕ) (gap : Option StreamFault) → option_or (option_map Doubled o) gap ≡ None → o ≡ None
undoubled None gap none = refl
undoubled (Some i) gap none = let clash : Some (Doubled i) ≡ None = none in absurd cc

pub once-each : (packets : List Packet) → gap_of packets ≡ None → (i : ℕ) → times i packets ≤ 1
once-each packets none i =
    ⊎_elim
    (λ (twice : 1 < times i packets).
    let low : i < top packets = below_top packets i (omega (arith, twice)) in
    let clash : true ≡ false =
    sym (lt-ltb 1 (times i packets) twice)
    ∙ none-passes (top packets) 0 (λ k. nat_lt 1 (times k packets))
    (undoubled (least_below (top packets) (λ k. nat_lt 1 (times k packets))) (gap_by_config packets (config_index packets)) none)
    i (omega arith) (omega (arith, low)) in absurd cc)
    (λ (once : times i packets ≤ 1). once) (cases_lt 1 (times i packets))

pub order-same : (a b : List Packet) → IsSameStream a b → gap_of b ≡ None → in_order a ≡ in_order b
order-same a b same none =
    map-same (λ i. unwrap_or (packet_with i a) (end_of 1 0)) (λ i. unwrap_or (packet_with i b) (end_of 1 0)) 0 (top a)
    (λ k low high. ap (λ (o : Option Packet). unwrap_or o (end_of 1 0)) (same.packet k (once-each b none k)))
    ∙ ap (λ (n : ℕ). map (λ i. unwrap_or (packet_with i b) (end_of 1 0)) (range_with_len 0 n)) (top-same a b same.times_are)

pub said-same : (s : ℕ) (a b : List Packet) → IsSameStream a b → gap_of b ≡ None → said s a ≡ said s b
said-same s a b same none = ap (λ (ps : List Packet). reverse (map (λ p. record_at s p.payload) ps)) (order-same a b same none)

-- ---- the same first fault

load-same : (D : Desc) (s : ℕ) (a b : List Packet) → in_order a ≡ in_order b → load_fault D s a ≡ load_fault D s b
load-same D s a b same =
    ap (λ (ps : List Packet).
    option_or (bad_record D s [] 0 ps)
    (option_or (config_differs D s (reverse (map (λ p. record_at s p.payload) ps))) (option_map NotWhole (lacks D s (reverse (map (λ p. record_at s p.payload) ps)))))) same

pub fault-same : (D : Desc) (s : ℕ) (a b : List Packet) → IsSameStream a b → stream_fault D s a ≡ stream_fault D s b
fault-same D s a b same = at (gap_of b) refl
  where
    at : (o : Option StreamFault) → gap_of b ≡ o → stream_fault D s a ≡ stream_fault D s b
    at None is = ap₂ (λ (o l : Option StreamFault). option_or o l) (gap-same a b same) (load-same D s a b (order-same a b same is))
    at (Some gap) is =
        ap (λ (o : Option StreamFault). option_or o (load_fault D s a)) (gap-same a b same ∙ is)
        ∙ sym (ap (λ (o : Option StreamFault). option_or o (load_fault D s b)) is)

pub refused-same : (D : Desc) (came : ℕ → List Packet) (packets : List Packet) (from more : ℕ)
    → ((s : ℕ) → from ≤ s → s < from + more → IsSameStream (came s) (stream_packets s packets))
    → refused_of D came from more ≡ refused_stream D packets from more
refused-same D came packets from zero same = refl
refused-same D came packets from (suc more) same =
    ap₂ (λ (o : Option StreamFault) (later : Option Refusal). option_or (option_map (stream_refusal from) o) later)
    (fault-same D from (came from) (stream_packets from packets) (same from (omega arith) (omega arith)))
    (refused-same D came packets (from + 1) more (λ s low high. same s (omega (arith, low)) (omega (arith, high))))
