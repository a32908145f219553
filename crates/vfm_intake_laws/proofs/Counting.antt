-- Packets counted and found by their indexes, in lists that are joined.
use Rattle.std.proofs.Common.{◌≡◌, ◌∙◌, refl, sym, ap, ap₂, subst, ℕ, zero, suc, ◌+◌, ◌<◌, ◌≤◌, ◌==◌, ◌&&◌, ◌||◌, if◌then◌else◌, Bool, true, false, List, [], ◌∷◌, ◌++◌, map, Option, Some, None, unwrap_or, arith, ⊎_elim}
use Rattle.std.specs.Option.{option_or}
use Rattle.std.specs.List.{range_with_len}
use Rattle.std.proofs.lemmas.Bool.{cond-true}
use Rattle.std.proofs.lemmas.List.FromFn.{map-range_with_len_more}
use Rattle.vfm_packet.specs.Packet.{Packet}
use Rattle.vfm_record.specs.Packing.{end_of}
use Rattle.vfm_streams.specs.Whole.{times, packet_with}
use Rattle.vfm_streams.proofs.Numbered.{by_bool}
use Rattle.vfm_intake_laws.specs.Prefixes.{first_in_order}

pub times-both : (i : ℕ) (first second : List Packet) → times i (first ++ second) ≡ times i first + times i second
times-both i [] second = omega arith
times-both i (p ∷ first) second =
    let rest : times i (first ++ second) ≡ times i first + times i second = times-both i first second in omega arith

pub packet-both : (i : ℕ) (first second : List Packet) → packet_with i (first ++ second) ≡ option_or (packet_with i first) (packet_with i second)
packet-both i [] second = refl
packet-both i (p ∷ first) second =
    by_bool (p.head.index == i)
    (λ b. (if b then Some p else packet_with i (first ++ second)) ≡ option_or (if b then Some p else packet_with i first) (packet_with i second))
    (λ here. refl) (λ away. packet-both i first second)

-- what doesn't stand there isn't found
pub none-with : (i : ℕ) (packets : List Packet) → times i packets ≡ 0 → packet_with i packets ≡ None
none-with i [] none = refl
none-with i (p ∷ packets) none =
    by_bool (p.head.index == i)
    (λ b. times i packets + (if b then 1 else 0) ≡ 0 → (if b then Some p else packet_with i packets) ≡ None)
    (λ here n. absurd (omega (arith, n))) (λ away n. none-with i packets (omega (arith, n))) none

-- what stands there stays the first
pub still-with : (i : ℕ) (packets : List Packet) (p : Packet) → 0 < times i packets → packet_with i (packets ++ p ∷ []) ≡ packet_with i packets
still-with i [] p some = absurd (omega (arith, some))
still-with i (q ∷ packets) p some =
    by_bool (q.head.index == i)
    (λ b. 0 < times i packets + (if b then 1 else 0) → (if b then Some q else packet_with i (packets ++ p ∷ [])) ≡ (if b then Some q else packet_with i packets))
    (λ here n. refl) (λ away n. still-with i packets p (omega (arith, n))) some

-- two functions that agree over some numbers
pub map-same : {X : Type 0} (f g : ℕ → X) (from n : ℕ) → ((k : ℕ) → from ≤ k → k < from + n → f k ≡ g k)
    → map f (range_with_len from n) ≡ map g (range_with_len from n)
map-same f g from zero same = refl
map-same f g from (suc n) same =
    ap₂ (λ x xs. x ∷ xs) (same from (omega arith) (omega arith)) (map-same f g (from + 1) n (λ k low high. same k (omega (arith, low)) (omega (arith, high))))

pub stay : (n : ℕ) (packets : List Packet) (p : Packet) → ((i : ℕ) → i < n → 0 < times i packets)
    → first_in_order n (packets ++ p ∷ []) ≡ first_in_order n packets
stay n packets p some =
    map-same (λ i. unwrap_or (packet_with i (packets ++ p ∷ [])) (end_of 1 0)) (λ i. unwrap_or (packet_with i packets) (end_of 1 0)) 0 n
    (λ k low high. ap (λ (o : Option Packet). unwrap_or o (end_of 1 0)) (still-with k packets p (some k (omega (arith, high)))))

pub go_on : (n : ℕ) (packets : List Packet) (p : Packet) → packet_with n packets ≡ Some p
    → first_in_order (n + 1) packets ≡ first_in_order n packets ++ p ∷ []
go_on n packets p found =
    map-range_with_len_more (λ i. unwrap_or (packet_with i packets) (end_of 1 0)) 0 n n (omega arith)
    ∙ ap (λ (o : Option Packet). first_in_order n packets ++ unwrap_or o (end_of 1 0) ∷ []) found
