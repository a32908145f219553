-- Texts that are the same.
use Rattle.std.proofs.Common.{◌≡◌, ℕ, List, [], ◌∷◌, true, refl}
use Rattle.std.proofs.lemmas.Bool.{and_parts, and_from, eqb-true, eq-eqb}
use Rattle.vfm_report.specs.Same.{same_text}

-- a text is itself
pub same_text-refl : (w : List ℕ) → same_text w w ≡ true
same_text-refl [] = refl
same_text-refl (b ∷ w) = and_from _ _ (eq-eqb b b refl) (same_text-refl w)

-- the same text
pub same_text-eq : (v w : List ℕ) → same_text v w ≡ true → v ≡ w
same_text-eq [] [] h = refl
same_text-eq [] (b ∷ w) h = absurd cc
same_text-eq (a ∷ v) [] h = absurd cc
same_text-eq (a ∷ v) (b ∷ w) h =
    let parts = and_parts _ _ h in
    let first = eqb-true a b parts.0 in
    let rest = same_text-eq v w parts.1 in
    λ i. first i ∷ rest i
