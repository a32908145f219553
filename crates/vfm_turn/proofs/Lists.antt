-- Lists read by place, and what holds of each of their elements.
use Rattle.std.proofs.Common.{◌≡◌, ℕ, zero, suc, ◌+◌, ◌<◌, ◌⊎◌, inl, inr, ⊎_elim, List, [], ◌∷◌, ◌++◌, length, take, drop, append_assoc, append-nil, sym, refl, ap, ◌∙◌, arith}
use mathlib.Core.Option.{some, some-injective, some-ne-none}
use lib.ListN.{get_elem?}
use Rattle.std.specs.List.{All}
use Rattle.atomic_table.specs.Table.{turned}
use Rattle.vfm_turn.specs.Log.{Each}

module _ {X : Type 0} where
  pub each_weaken : (P Q : X → Type 0) → ((x : X) → P x → Q x) → (xs : List X) → Each P xs → Each Q xs
  each_weaken P Q f [] e = tt
  each_weaken P Q f (x ∷ xs) e = (f x e.0, each_weaken P Q f xs e.1)

  pub each_snoc : (P : X → Type 0) (xs : List X) (x : X) → Each P xs → P x → Each P (xs ++ x ∷ [])
  each_snoc P [] x e p = (p, tt)
  each_snoc P (y ∷ ys) x e p = (e.0, each_snoc P ys x e.1 p)

  pub each_all : (P : X → Type 0) (xs : List X) → Each P xs → All P xs
  each_all P [] e k d h = absurd (omega arith)
  each_all P (x ∷ xs) e zero d h = e.0
  each_all P (x ∷ xs) e (suc k) d h = each_all P xs e.1 k d (omega arith)

  pub at_lt : (xs : List X) (i : ℕ) (x : X) → get_elem? xs i ≡ some x → i < length xs
  at_lt [] i x e = absurd (some-ne-none x (sym e))
  at_lt (y ∷ ys) zero x e = omega arith
  at_lt (y ∷ ys) (suc i) x e = let h = at_lt ys i x e in omega arith

  pub at_end : (xs : List X) (y : X) (i : ℕ) (x : X) → get_elem? (xs ++ y ∷ []) i ≡ some x → (get_elem? xs i ≡ some x) ⊎ ((i ≡ length xs) × (y ≡ x))
  at_end [] y zero x e = inr (refl, some-injective y x e)
  at_end [] y (suc i) x e = absurd (some-ne-none x (sym e))
  at_end (z ∷ zs) y zero x e = inl e
  at_end (z ∷ zs) y (suc i) x e = ⊎_elim (λ h. inl h) (λ h. inr (ap suc h.0, h.1)) (at_end zs y i x e)

  pub same_at : (xs : List X) (i : ℕ) (x y : X) → get_elem? xs i ≡ some x → get_elem? xs i ≡ some y → x ≡ y
  same_at xs i x y a b = some-injective x y (sym a ∙ b)

  -- the element at a place, with the parts before and after it
  pub split_at : (xs : List X) (i : ℕ) → i < length xs → (x : X) × (drop i xs ≡ x ∷ drop (suc i) xs) × (take (suc i) xs ≡ take i xs ++ x ∷ [])
  split_at [] i h = absurd (omega arith)
  split_at (x ∷ xs) zero h = (x, refl, refl)
  split_at (x ∷ xs) (suc i) h = let r = split_at xs i (omega arith) in (r.0, r.1, ap (λ ys. x ∷ ys) r.2)

module _ {S : Type 0} where
  -- one turn more
  pub turned_more : (xs : List (ℕ × S)) (i : ℕ) → i < length xs → turned (drop i xs ++ take i xs) ≡ drop (i + 1) xs ++ take (i + 1) xs
  turned_more xs i h = let s = split_at xs i h in let next : i + 1 ≡ suc i = omega arith in
      ap (λ ys. turned (ys ++ take i xs)) s.1
      ∙ (append_assoc (drop (suc i) xs) (take i xs) (s.0 ∷ [])
      ∙ (ap (λ ys. drop (suc i) xs ++ ys) (sym s.2) ∙ ap (λ j. drop j xs ++ take j xs) (sym next)))

  pub turned_none : (xs : List (ℕ × S)) → xs ≡ drop 0 xs ++ take 0 xs
  turned_none [] = refl
  turned_none (x ∷ xs) = ap (λ ys. x ∷ ys) (sym (append-nil xs))
