-- Pieces put together again, and cut again.
use Rattle.std.proofs.Common.{◌≡◌, ℕ, List, [], ◌∷◌, ◌++◌, true, false, Bool, refl, ap, sym, ◌∙◌, append-nil, cond, inl, inr}
use Rattle.std.specs.Prelude.{◌==◌}
use Rattle.std.specs.List.{flat_map}
use Rattle.std.proofs.lemmas.Bool.{eqb-true, cases_Bool}
use Rattle.vfm_report.specs.Split.{is_without, before_pieces, split}
use Rattle.vfm_report.proofs.Splits.{split-whole, split-first}

-- pieces with the byte between them
abbrev pub joined : ℕ → List (List ℕ) → List ℕ
joined b [] = []
joined b (piece ∷ pieces) = piece ++ flat_map (λ next. b ∷ next) pieces

-- none of the pieces has the byte
abbrev pub all_without : ℕ → List (List ℕ) → Type 0
all_without b [] = Unit {0}
all_without b (piece ∷ pieces) = (is_without b piece ≡ true) × all_without b pieces

-- there is a piece at least
pub split-some : (b : ℕ) (xs : List ℕ) → split b xs ≡ [] → ⊥
unfolding split
split-some b [] h = absurd cc
split-some b (x ∷ xs) h = by (x == b) (split b xs) h
  where
    by : (t : Bool) (ps : List (List ℕ)) → (cond t ([] ∷ ps) (before_pieces x ps)) ≡ [] → ⊥
    by true ps h = absurd cc
    by false [] h = absurd cc
    by false (p ∷ ps) h = absurd cc

joined-blank : (b : ℕ) (ps : List (List ℕ)) → (ps ≡ [] → ⊥) → joined b ([] ∷ ps) ≡ b ∷ joined b ps
joined-blank b [] h = absurd (h refl)
joined-blank b (p ∷ ps) h = refl

joined-before : (b x : ℕ) (ps : List (List ℕ)) → joined b (before_pieces x ps) ≡ x ∷ joined b ps
joined-before b x [] = refl
joined-before b x (p ∷ ps) = refl

-- what was cut is put together
pub joined-split : (b : ℕ) (xs : List ℕ) → joined b (split b xs) ≡ xs
unfolding split
joined-split b [] = refl
joined-split b (x ∷ xs) =
    elim (cases_Bool (x == b)) [
      | inl here ↦
          let same : b ≡ x = sym (eqb-true x b here) in
          rw here (joined-blank b (split b xs) (split-some b xs) ∙ (λ i. same i ∷ joined-split b xs i))
      | inr other ↦ rw other (joined-before b x (split b xs) ∙ ap (λ (ys : List ℕ). x ∷ ys) (joined-split b xs))
    ]

-- what is put together is cut
pub split-joined : (b : ℕ) (piece : List ℕ) (pieces : List (List ℕ)) → all_without b (piece ∷ pieces) → split b (joined b (piece ∷ pieces)) ≡ piece ∷ pieces
split-joined b piece [] h = ap (split b) (append-nil piece) ∙ split-whole b piece h.0
split-joined b piece (next ∷ pieces) h =
    split-first b piece (joined b (next ∷ pieces)) h.0 ∙ ap (λ (ps : List (List ℕ)). piece ∷ ps) (split-joined b next pieces h.1)
