-- One list in a row and a column changes.
use Rattle.std.proofs.Common.{◌≡◌, ◌∙◌, refl, sym, ap, subst, ℕ, zero, suc, ◌<◌, List, [], ◌∷◌, ◌++◌, length, map, slice_index_or, slice_set, ⊎_elim}
use Rattle.std.proofs.lemmas.Bool.{cases_eq}
use Rattle.std.proofs.lemmas.List.{map-set, get_or-set_other}
use Rattle.std.specs.List.{AllByRecursion}
use Rattle.vfm_mesh.specs.declared.feed.Feed.{Feed}
use Rattle.vfm_mesh.specs.declared.fan.Fan.{Fan}
use Rattle.vfm_mesh.specs.Meshes.{cell}
use Rattle.vfm_mesh.proofs.RowLemmas.{read-at, read-set}

module _ {F X : Type 0} (f : F → List (List X)) (xs : List F) (i : ℕ) (x y : F) (inside : i < length xs) where
  -- what stands in the row that is set
  pub cell-set : (j : ℕ) → cell (map f (slice_set xs i y)) i j ≡ slice_index_or (f y) j []
  cell-set j = ap (λ (row : List (List X)). slice_index_or row j []) (read-set f xs i y [] inside)

  module _ (was : x ≡ slice_index_or xs i x) where
    -- what stood there
    pub cell-was : (j : ℕ) → cell (map f xs) i j ≡ slice_index_or (f x) j []
    cell-was j = ap (λ (row : List (List X)). slice_index_or row j []) (read-at f xs i x [] inside was)

    -- all other lists stay
    pub cell-others : (j : ℕ) (z : List X) → f y ≡ slice_set (f x) j z
        → (a b : ℕ) → (a ≡ i → b ≡ j → ⊥) → cell (map f (slice_set xs i y)) a b ≡ cell (map f xs) a b
    cell-others j z set_ a b other =
        ⊎_elim
        (λ (same : a ≡ i).
        subst (λ (k : ℕ). cell (map f (slice_set xs i y)) k b ≡ cell (map f xs) k b) (sym same)
        (cell-set b ∙ ap (λ (row : List (List X)). slice_index_or row b []) set_ ∙ get_or-set_other (f x) j b z [] (other same) ∙ sym (cell-was b)))
        (λ (away : a ≡ i → ⊥).
        ap (λ (rows : List (List (List X))). cell rows a b) (map-set f xs i y)
        ∙ ap (λ (row : List (List X)). slice_index_or row b []) (get_or-set_other (map f xs) i a (f y) [] away)) (cases_eq a i)

-- one element more that is none
pub snoc-none : {X : Type 0} (row : List X) (none : X) → ((b : ℕ) → slice_index_or row b none ≡ none) → (b : ℕ) → slice_index_or (row ++ none ∷ []) b none ≡ none
snoc-none [] none h zero = refl
snoc-none [] none h (suc b) = refl
snoc-none (r ∷ row) none h zero = h 0
snoc-none (r ∷ row) none h (suc b) = snoc-none row none (λ k. h (suc k)) b

-- a row gets one element more, and still none of all is anything
pub none-more : {F X : Type 0} (f : F → List X) (none : X) (xs : List F) (i : ℕ) (x y : F) → i < length xs → x ≡ slice_index_or xs i x → f y ≡ f x ++ none ∷ []
    → ((a b : ℕ) → slice_index_or (slice_index_or (map f xs) a []) b none ≡ none)
    → (a b : ℕ) → slice_index_or (slice_index_or (map f (slice_set xs i y)) a []) b none ≡ none
none-more f none xs i x y inside was more all a b =
    ⊎_elim
    (λ (same : a ≡ i).
    subst (λ (k : ℕ). slice_index_or (slice_index_or (map f (slice_set xs i y)) k []) b none ≡ none) (sym same)
    (ap (λ (row : List _). slice_index_or row b none) (read-set f xs i y [] inside ∙ more)
    ∙ snoc-none (f x) none (λ k. ap (λ (row : List _). slice_index_or row k none) (sym (read-at f xs i x [] inside was)) ∙ all i k) b))
    (λ (away : a ≡ i → ⊥).
    ap (λ (rows : List (List _)). slice_index_or (slice_index_or rows a []) b none) (map-set f xs i y)
    ∙ ap (λ (row : List _). slice_index_or row b none) (get_or-set_other (map f xs) i a (f y) [] away)
    ∙ all a b) (cases_eq a i)

-- a row more without anything
pub rows-none : {X : Type 0} (rows : List (List (List X))) (row : List (List X)) → ((s k : ℕ) → cell rows s k ≡ []) → ((k : ℕ) → slice_index_or row k [] ≡ [])
    → (s k : ℕ) → cell (rows ++ row ∷ []) s k ≡ []
rows-none [] row h none zero k = none k
rows-none [] row h none (suc s) k = refl
rows-none (r ∷ rows) row h none zero k = h 0 k
rows-none (r ∷ rows) row h none (suc s) k = rows-none rows row (λ t. h (suc t)) none s k

-- fans without feeds have nothing of any
pub none-at : {X : Type 0} (g : Feed → X) (fans : List Fan) → AllByRecursion (λ fan. fan.feeds.items ≡ []) fans
    → (k : ℕ) → slice_index_or (map (λ fan. map g fan.feeds.items) fans) k [] ≡ []
none-at g [] all k = refl
none-at g (fan ∷ fans) all zero = ap (map g) all.0
none-at g (fan ∷ fans) all (suc k) = none-at g fans all.1 k
