-- Sizes that no device may have together.
use Rattle.std.proofs.Common.{◌≡◌, ℕ, ◌<◌, ◌≤◌, ◌^◌, ◌&&◌, Bool, true, false, nat_le, List, length, refl, IsTrue, leb-true, arith}
use Rattle.std.specs.Prelude.{◌↔◌, Option, Some, None, IsSome, sum}
use Rattle.std.specs.List.{list_all}
use Rattle.std.proofs.lemmas.Bool.{and_parts, false≢true}
use Rattle.vfm_types.specs.declared.fault.FieldName.TheVariants.{Bar}
use Rattle.vfm_types.specs.Ranges.{takes, most_bars, are_bar_sizes}

-- what a device may have is kept
kept : (sizes : List ℕ) → IsTrue (are_bar_sizes sizes) → (1 ≤ length sizes) × (length sizes ≤ 6) × (sum sizes < 2 ^ 32)
kept sizes is =
    let total = and_parts (nat_le 1 (length sizes) && nat_le (length sizes) most_bars && list_all (takes Bar) sizes) (nat_le (sum sizes) 65536) is in
    let each = and_parts (nat_le 1 (length sizes) && nat_le (length sizes) most_bars) (list_all (takes Bar) sizes) total.0 in
    let some = and_parts (nat_le 1 (length sizes)) (nat_le (length sizes) most_bars) each.0 in
    let few : sum sizes ≤ 65536 = leb-true _ _ total.1 in
    (leb-true _ _ some.0, leb-true _ _ some.1, omega arith)

by_test : (b : Bool) → (b ≡ true → ⊥) → b ≡ false
by_test true h = absurd (h refl)
by_test false h = refl

-- so what isn't kept no device may have
pub not_kept : (sizes : List ℕ) (bars : Option (List ℕ)) → (IsSome bars ↔ ((1 ≤ length sizes) × (length sizes ≤ 6) × (sum sizes < 2 ^ 32))) → bars ≡ None → are_bar_sizes sizes ≡ false
not_kept sizes None known none = by_test (are_bar_sizes sizes) (λ is. false≢true (known.1 (kept sizes is)))
not_kept sizes (Some bars) known none = absurd cc
