-- One element of a list changes, and what is read of each.
use Rattle.std.proofs.Common.{◌≡◌, ◌∙◌, sym, ap, ap₂, subst, refl, ℕ, suc, replicate, ◌<◌, List, [], ◌∷◌, length, map, slice_index_or, slice_set, Option, Some, None, IfSome, IfNone, arith}
use Rattle.std.specs.declared.alloc.Global.{Global}
use Rattle.rtrb.specs.declared.producer.Producer.{Producer}
use Rattle.rtrb.specs.declared.consumer.Consumer.{Consumer}
use Rattle.std.specs.List.{AllByRecursion}
use Rattle.rtrb.specs.Ring.{IsPair, SameProducer, SameConsumer}
use Rattle.vfm_mesh.specs.Feeds.{producer_ring, consumer_ring}
use Rattle.std.proofs.lemmas.List.{map-set, get_or-map, get_or-set_same, length-map}
use Rattle.std.proofs.Math.Seq.{map-set_same}

module _ {X Y : Type 0} (f : X → Y) where
  -- what is read of the element that was set
  pub read-set : (xs : List X) (i : ℕ) (y : X) (e : Y) → i < length xs → slice_index_or (map f (slice_set xs i y)) i e ≡ f y
  read-set xs i y e inside =
      ap (λ (l : List Y). slice_index_or l i e) (map-set f xs i y)
      ∙ get_or-set_same (map f xs) i (f y) e (subst (λ (n : ℕ). i < n) (sym (length-map xs f)) inside)

  -- what is read of all where one is set
  pub all-set : (xs : List X) (i : ℕ) (y : X) (z : Y) → f y ≡ z → map f (slice_set xs i y) ≡ slice_set (map f xs) i z
  all-set xs i y z e = map-set f xs i y ∙ ap (λ (z : Y). slice_set (map f xs) i z) e

  -- what is read of the element that stands there
  pub read-at : (xs : List X) (i : ℕ) (x : X) (e : Y) → i < length xs → x ≡ slice_index_or xs i x → slice_index_or (map f xs) i e ≡ f x
  read-at xs i x e inside was = get_or-map f xs i x e inside ∙ ap f (sym was)

  -- nothing that is read changes where it doesn't of the one that is set
  pub none-set : (xs : List X) (i : ℕ) (x y : X) → x ≡ slice_index_or xs i x → f y ≡ f x → map f (slice_set xs i y) ≡ map f xs
  none-set xs i x y was e = map-set_same f xs i y x (e ∙ ap f was)

-- the first of a list, if there is one, by what is read of two lists
pub first-of : {X : Type 0} (r : Option X) (a b was now : List X) → a ≡ was → b ≡ now
    → IfSome r (λ x. was ≡ x ∷ now) → IfSome r (λ x. a ≡ x ∷ b)
first-of None a b was now e f none = tt
first-of (Some x) a b was now e f first = e ∙ first ∙ ap (λ (l : List _). x ∷ l) (sym f)

-- the same where there is none
pub nothing-of : {X : Type 0} (r : Option X) (a b was now : List X) → a ≡ was → b ≡ now
    → IfNone r ((was ≡ []) × (now ≡ [])) → IfNone r ((a ≡ []) × (b ≡ []))
nothing-of None a b was now e f none = (e ∙ none.0, f ∙ none.1)
nothing-of (Some x) a b was now e f none = tt

-- the rings of one stream are those of one end more
pub one-ring : {T P : Type 0} (p q : Producer T Global P) → SameProducer p q → producer_ring q ≡ producer_ring p
one-ring p q same = rw (same.0.0, same.0.1, same.0.2, same.0.3) refl

pub one-end : {T P : Type 0} (p q : Consumer T Global P) → SameConsumer p q → consumer_ring q ≡ consumer_ring p
one-end p q same = rw (same.0.0, same.0.1, same.0.2, same.0.3) refl

-- what is counted of each is one number
pub all-same : {X Y : Type 0} (f : X → ℕ) (g : X → List Y) → ((x : X) → length (g x) ≡ f x) → (xs : List X) (n : ℕ)
    → ((k : ℕ) → k < length (map g xs) → length (slice_index_or (map g xs) k []) ≡ n) → map f xs ≡ replicate (length xs) n
all-same f g counts [] n h = refl
all-same f g counts (x ∷ xs) n h =
    ap₂ (λ (m : ℕ) (l : List ℕ). m ∷ l) (sym (counts x) ∙ h 0 (omega arith)) (all-same f g counts xs n (λ k below. h (suc k) (omega (arith, below))))

-- the two ends of a ring are of one ring
pub one-pair : {T P : Type 0} (p : Producer T Global P) (c : Consumer T Global P) → IsPair p c → producer_ring p ≡ consumer_ring c
one-pair p c pair = rw (pair.0, pair.1, pair.2, pair.3) refl

pub all-counted : {X Y : Type 0} (f : X → ℕ) (g : X → List Y) → ((x : X) → length (g x) ≡ f x) → (xs : List X) (n : ℕ)
    → ((k : ℕ) → k < length (map g xs) → length (slice_index_or (map g xs) k []) ≡ n) → AllByRecursion (λ x. f x ≡ n) xs
all-counted f g counts [] n h = tt
all-counted f g counts (x ∷ xs) n h =
    (sym (counts x) ∙ h 0 (omega arith), all-counted f g counts xs n (λ k below. h (suc k) (omega (arith, below))))
