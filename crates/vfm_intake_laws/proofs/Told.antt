-- The least doubled index.
use Rattle.std.proofs.Common.{◌≡◌, ◌∙◌, refl, sym, ap, subst, ℕ, ◌+◌, ◌<◌, ◌≤◌, ◌==◌, if◌then◌else◌, nat_lt, Bool, true, false, List, [], ◌∷◌, ◌++◌, Option, Some, None, arith, ⊎_elim, eq-eqb, eqb-true}
use Rattle.std.specs.Prelude.{min}
use Rattle.std.specs.Option.{option_or, option_map}
use Rattle.std.proofs.lemmas.Bool.{cases_eq, cases_lt, ne_eqb, lt-ltb, le-ltb}
use Rattle.vfm_packet.specs.Packet.{Packet}
use Rattle.vfm_streams.specs.Whole.{Doubled, times, top, gap_by_config, config_index, gap_of}
use Rattle.vfm_streams.proofs.Gaps.{first_passes, below_top}
use Rattle.vfm_intake_laws.specs.Doubles.{IsLeastDoubled, least_told}
use Rattle.vfm_intake_laws.proofs.Counting.{times-both}

pub doubled-gap : (i : ℕ) (packets : List Packet) → IsLeastDoubled (Some i) packets → gap_of packets ≡ Some (Doubled i)
doubled-gap i packets least =
    ap (λ (o : Option ℕ). option_or (option_map Doubled o) (gap_by_config packets (config_index packets)))
    (first_passes (top packets) (λ k. nat_lt 1 (times k packets)) i (below_top packets i (omega (arith, least.0)))
    (lt-ltb 1 (times i packets) least.0) (λ k low. le-ltb 1 (times k packets) (least.1 k low)))

-- the packet's own index, and the others
times-own : (packets : List Packet) (p : Packet) → times p.head.index (packets ++ p ∷ []) ≡ times p.head.index packets + 1
times-own packets p =
    times-both p.head.index packets (p ∷ [])
    ∙ ap (λ (b : Bool). times p.head.index packets + (0 + (if b then 1 else 0))) (eq-eqb p.head.index p.head.index refl)

times-other : (i : ℕ) (packets : List Packet) (p : Packet) → (p.head.index ≡ i → ⊥) → times i (packets ++ p ∷ []) ≡ times i packets
times-other i packets p away =
    times-both i packets (p ∷ [])
    ∙ ap (λ (b : Bool). times i packets + (0 + (if b then 1 else 0))) (ne_eqb p.head.index i away)
    ∙ omega arith

once-more : (i : ℕ) (packets : List Packet) (p : Packet) → times p.head.index packets ≡ 0 → times i packets ≤ 1 → times i (packets ++ p ∷ []) ≤ 1
once-more i packets p new_ once =
    ⊎_elim
    (λ (same : p.head.index ≡ i). subst (λ (n : ℕ). times n (packets ++ p ∷ []) ≤ 1) same (omega (arith, times-own packets p, new_)))
    (λ (away : p.head.index ≡ i → ⊥). omega (arith, times-other i packets p away, once)) (cases_eq p.head.index i)

twice-still : (i : ℕ) (packets : List Packet) (p : Packet) → 1 < times i packets → 1 < times i (packets ++ p ∷ [])
twice-still i packets p twice = omega (arith, times-both i packets (p ∷ []), twice)

pub new-index : (told : Option ℕ) (packets : List Packet) (p : Packet) → times p.head.index packets ≡ 0
    → IsLeastDoubled told packets → IsLeastDoubled told (packets ++ p ∷ [])
new-index None packets p new_ least = λ i. once-more i packets p new_ (least i)
new-index (Some d) packets p new_ least =
    (twice-still d packets p least.0, λ j low. once-more j packets p new_ (least.1 j low))

pub again : (told : Option ℕ) (packets : List Packet) (p : Packet) → 0 < times p.head.index packets
    → IsLeastDoubled told packets → IsLeastDoubled (Some (least_told told p.head.index)) (packets ++ p ∷ [])
again None packets p before least = (
  omega (arith, times-own packets p, before),
  λ j low. omega (arith, times-other j packets p (λ e. omega (arith, e, low)), least j),
)
again (Some d) packets p before least =
    ⊎_elim
    (λ (own : p.head.index < d).
    let is : min d p.head.index ≡ p.head.index = omega (arith, own) in
    subst (λ (m : ℕ). (1 < times m (packets ++ p ∷ [])) × ((j : ℕ) → j < m → times j (packets ++ p ∷ []) ≤ 1)) (sym is) (
      omega (arith, times-own packets p, before),
      λ j low. omega (arith, times-other j packets p (λ e. omega (arith, e, low)), least.1 j (omega (arith, low, own))),
    ))
    (λ (older : d ≤ p.head.index).
    let is : min d p.head.index ≡ d = omega (arith, older) in
    subst (λ (m : ℕ). (1 < times m (packets ++ p ∷ [])) × ((j : ℕ) → j < m → times j (packets ++ p ∷ []) ≤ 1)) (sym is) (
      twice-still d packets p least.0,
      λ j low. omega (arith, times-other j packets p (λ e. omega (arith, e, low, older)), least.1 j low),
    ))
    (cases_lt p.head.index d)
