-- Tickets that go from one list to another, and workers after their turns.
use Rattle.std.proofs.Common.{◌≡◌, ℕ, zero, suc, ◌<◌, Bool, true, false, ◌||◌, eqb, List, [], ◌∷◌, ◌++◌, map, length, take, drop, append-nil, get_or, sym, refl, ap, ◌∙◌, arith}
use Rattle.vfm_turn.specs.Order.{has}

or_none : (b : Bool) → (b || false) ≡ b
or_none true = refl
or_none false = refl

or_assoc : (a b c : Bool) → (a || (b || c)) ≡ ((a || b) || c)
or_assoc true b c = refl
or_assoc false b c = refl

has_end : (k a : ℕ) (xs : List ℕ) → has k (xs ++ a ∷ []) ≡ (has k xs || eqb a k)
has_end k a [] = or_none (eqb a k)
has_end k a (x ∷ xs) = ap (λ b. eqb x k || b) (has_end k a xs) ∙ or_assoc (eqb x k) (has k xs) (eqb a k)

either_way : (p q b : Bool) → ((p || b) || q) ≡ true → (p || (q || b)) ≡ true
either_way true q b e = refl
either_way false true b e = refl
either_way false false b e = sym (or_none b) ∙ e

-- what leaves one list for the other is still in one of them
pub moved_one : (k a : ℕ) (xs ys : List ℕ) → (has k (xs ++ a ∷ []) || has k ys) ≡ true → (has k xs || has k (ys ++ a ∷ [])) ≡ true
moved_one k a xs ys e = ap (λ b. has k xs || b) (has_end k a ys) ∙ either_way (has k xs) (has k ys) (eqb a k) (sym (ap (λ b. b || has k ys) (has_end k a xs)) ∙ e)

-- two lists that agree at each place under a function
pub same_map : {X : Type 0} (f : X → ℕ) (xs ys : List X) → length xs ≡ length ys → ((i : ℕ) (d : X) → i < length xs → f (get_or ys i d) ≡ f (get_or xs i d)) → map f ys ≡ map f xs
same_map f [] [] e h = refl
same_map f [] (y ∷ ys) e h = absurd (omega arith)
same_map f (x ∷ xs) [] e h = absurd (omega arith)
same_map f (x ∷ xs) (y ∷ ys) e h = let a = h 0 x (omega arith) in let b = same_map f xs ys (omega arith) (λ i d l. h (suc i) d (omega arith)) in cc

-- a list that is lent whole and comes back
pub back_whole : {X : Type 0} (n : ℕ) (xs ys : List X) → n ≡ length ys → length xs ≡ length ys → take n (xs ++ drop (length xs) ys) ≡ xs
back_whole n xs ys e h = ap (λ (k : ℕ). take n (xs ++ drop k ys)) h ∙ (ap (λ zs. take n (xs ++ zs)) (dropped ys) ∙ (ap (take n) (append-nil xs) ∙ whole n xs (e ∙ sym h)))
  where
    dropped : {X : Type 0} (ys : List X) → drop (length ys) ys ≡ []
    dropped [] = refl
    dropped (y ∷ ys) = dropped ys

    whole : {X : Type 0} (n : ℕ) (xs : List X) → n ≡ length xs → take n xs ≡ xs
    whole zero [] e = refl
    whole (suc n) [] e = absurd (omega arith)
    whole zero (x ∷ xs) e = absurd (omega arith)
    whole (suc n) (x ∷ xs) e = ap (λ zs. x ∷ zs) (whole n xs (omega arith))
