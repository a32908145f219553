-- What a ticket holds: the seat's settled states beside what the cells were shown as.
use Rattle.std.proofs.Common.{◌≡◌, ◌≢◌, ℕ, zero, suc, ◌<◌, Bool, true, false, not, ◌||◌, ◌&&◌, eqb, ltb, List, [], ◌∷◌, ◌++◌, map, length, take, drop, set, sym, refl, ap, ◌∙◌, subst, eq-eqb, ne_eqb, arith}
use mathlib.Core.Logic.{dite}
use native.Mathlib.Decide.{ℕ_discrete}
use borrow.Author.Tests.{ltb-true, lt-ltb}
use Rattle.std.specs.List.{IsDistinct, AllByRecursion, list_any, remove}
use Rattle.std.proofs.lemmas.Bool.{false≢true}
use Rattle.std.proofs.lemmas.Map.Steps.{length-le_from_distinct_below}
use Rattle.vfm_turn.specs.declared.seen.Stand.{Stand}
use Rattle.vfm_turn.specs.declared.seen.Touch.{Touch}
use Rattle.vfm_turn.specs.declared.seen.Held.{Held}
use Rattle.vfm_turn.specs.Seen.{Hold, hold, stand, is_held, IsSettled, show_in, without, touch_in, touches_in, settle, after_in, settled_of}
use Rattle.vfm_turn.specs.Log.{Each}
use Rattle.vfm_turn.specs.Rule.{stands_in}
use Rattle.vfm_turn.specs.Steps.{stands_without, stands_after}
use Rattle.vfm_turn.specs.Order.{has, are_once, are_below, held_cell, stand_cell}
use Rattle.vfm_turn.specs.Place.{place_in}
use Rattle.vfm_turn.specs.Words.{holds_from}

or_false : (a b : Bool) → (a || b) ≡ false → (a ≡ false) × (b ≡ false)
or_false true b e = absurd (false≢true (sym e))
or_false false b e = (refl, e)

and_true : (a b : Bool) → (a && b) ≡ true → (a ≡ true) × (b ≡ true)
and_true true b e = (refl, e)
and_true false b e = absurd (false≢true e)

not_true : (a : Bool) → not a ≡ true → a ≡ false
not_true true e = absurd (false≢true e)
not_true false e = refl

both_true : (a b : Bool) → a ≡ true → b ≡ true → (a && b) ≡ true
both_true true b x y = y
both_true false b x y = absurd (false≢true x)

apart : (x y : ℕ) → eqb x y ≡ false → x ≢ y
apart x y e same = false≢true (sym e ∙ eq-eqb x y same)

cons_eq : {X : Type 0} (x y : X) (xs ys : List X) → x ∷ xs ≡ y ∷ ys → (x ≡ y) × (xs ≡ ys)
cons_eq x y xs ys e = (cc, cc)

-- Numbers that stand once each, all below n, are at most n
none_of : (x : ℕ) (xs : List ℕ) → has x xs ≡ false → AllByRecursion (λ y. eqb x y ≡ false) xs
none_of x [] e = tt
none_of x (y ∷ ys) e = let h = or_false (eqb y x) (has x ys) e in (ne_eqb x y (λ same. apart y x h.0 (sym same)), none_of x ys h.1)

distinct_of : (xs : List ℕ) → are_once xs ≡ true → IsDistinct eqb xs
unfolding IsDistinct
distinct_of [] e = tt
distinct_of (x ∷ xs) e = let h = and_true (not (has x xs)) (are_once xs) e in (none_of x xs (not_true (has x xs) h.0), distinct_of xs h.1)

below_of : (n q : ℕ) (xs : List ℕ) → are_below n xs ≡ true → list_any (eqb q) xs ≡ true → q < n
below_of n q [] e a = absurd (false≢true a)
below_of n q (x ∷ xs) e a = let h = and_true (ltb x n) (are_below n xs) e in
    dite (ℕ_discrete q x) (λ same. let lt = ltb-true x n h.0 in omega arith) (λ other. below_of n q xs h.1 (rw (ne_eqb q x other) at a))

pub below_has : (n c : ℕ) (xs : List ℕ) → are_below n xs ≡ true → has c xs ≡ true → c < n
below_has n c [] e a = absurd (false≢true a)
below_has n c (x ∷ xs) e a = let h = and_true (ltb x n) (are_below n xs) e in
    dite (ℕ_discrete x c) (λ same. let lt = ltb-true x n h.0 in omega arith) (λ other. below_has n c xs h.1 (rw (ne_eqb x c other) at a))

pub room_for : (n c : ℕ) (xs : List ℕ) → are_once xs ≡ true → are_below n xs ≡ true → has c xs ≡ false → c < n → length xs < n
room_for n c xs once below bare inside =
    let full : are_once (c ∷ xs) ≡ true = both_true (not (has c xs)) (are_once xs) (ap not bare) once in
    let all : are_below n (c ∷ xs) ≡ true = both_true (ltb c n) (are_below n xs) (lt-ltb c n inside) below in
    let h = length-le_from_distinct_below (c ∷ xs) n (distinct_of (c ∷ xs) full) (λ q. below_of n q (c ∷ xs) all) in omega arith

has_end : (x c : ℕ) (xs : List ℕ) → has x xs ≡ false → c ≢ x → has x (xs ++ c ∷ []) ≡ false
has_end x c [] e other = rw (ne_eqb c x other) refl
has_end x c (y ∷ ys) e other = let h = or_false (eqb y x) (has x ys) e in rw h.0 (has_end x c ys h.1 other)

pub once_end : (c : ℕ) (xs : List ℕ) → are_once xs ≡ true → has c xs ≡ false → are_once (xs ++ c ∷ []) ≡ true
once_end c [] e bare = refl
once_end c (x ∷ xs) e bare = let h = and_true (not (has x xs)) (are_once xs) e in let b = or_false (eqb x c) (has c xs) bare in
    both_true (not (has x (xs ++ c ∷ []))) (are_once (xs ++ c ∷ [])) (ap not (has_end x c xs (not_true (has x xs) h.0) (λ same. apart x c b.0 (sym same)))) (once_end c xs h.1 b.1)

pub below_end : (n c : ℕ) (xs : List ℕ) → are_below n xs ≡ true → c < n → are_below n (xs ++ c ∷ []) ≡ true
below_end n c [] e lt = both_true (ltb c n) true (lt-ltb c n lt) refl
below_end n c (x ∷ xs) e lt = let h = and_true (ltb x n) (are_below n xs) e in both_true (ltb x n) (are_below n (xs ++ c ∷ [])) h.0 (below_end n c xs h.1 lt)

pub place_inside : (c : ℕ) (xs : List ℕ) → has c xs ≡ true → place_in c xs < length xs
place_inside c [] e = absurd (false≢true e)
place_inside c (x ∷ xs) e = dite (ℕ_discrete x c) (λ same. rw (eq-eqb x c same) (omega arith))
    (λ other. rw (ne_eqb x c other) (let h = place_inside c xs (rw (ne_eqb x c other) at e) in omega arith))

drop_front : {X : Type 0} (a b : List X) → drop (length a) (a ++ b) ≡ b
drop_front [] b = refl
drop_front (x ∷ xs) b = drop_front xs b

take_front : {X : Type 0} (a b : List X) → take (length a) (a ++ b) ≡ a
take_front [] b = refl
take_front (x ∷ xs) b = ap (λ ys. x ∷ ys) (take_front xs b)

-- the slots of the other cells, back in their order
pub turned_back : {X : Type 0} (ms : List X) (i k : ℕ) → k ≡ length (drop (suc i) ms) → drop k (drop (suc i) ms ++ take i ms) ++ take k (drop (suc i) ms ++ take i ms) ≡ remove ms i
turned_back ms i k e = let a = drop (suc i) ms in let b = take i ms in
    ap (λ (j : ℕ). drop j (a ++ b) ++ take j (a ++ b)) e ∙ (ap (λ ys. ys ++ take (length a) (a ++ b)) (drop_front a b) ∙ ap (λ ys. b ++ ys) (take_front a b))

pub map_end : {X Y : Type 0} (f : X → Y) (xs : List X) (x : X) → map f (xs ++ x ∷ []) ≡ map f xs ++ f x ∷ []
map_end f [] x = refl
map_end f (y ∷ ys) x = ap (λ zs. f y ∷ zs) (map_end f ys x)

pub map_remove : {X Y : Type 0} (f : X → Y) (xs : List X) (i : ℕ) → map f (remove xs i) ≡ remove (map f xs) i
map_remove f [] zero = refl
map_remove f [] (suc i) = refl
map_remove f (x ∷ xs) zero = refl
map_remove f (x ∷ xs) (suc i) = ap (λ ys. f x ∷ ys) (map_remove f xs i)

each_append : {X : Type 0} (P : X → Type 0) (xs ys : List X) → Each P xs → Each P ys → Each P (xs ++ ys)
each_append P [] ys a b = b
each_append P (x ∷ xs) ys a b = (a.0, each_append P xs ys a.1 b)

module _ {Z : Type 0} where
  pub stands_has : (c : ℕ) (ss : List (Stand Z)) → stands_in c ss ≡ has c (map stand_cell ss)
  stands_has c [] = refl
  stands_has c (s ∷ ss) = ap (λ b. eqb s.cell c || b) (stands_has c ss)

  without_none : (c : ℕ) (ss : List (Stand Z)) → has c (map stand_cell ss) ≡ false → stands_without c ss ≡ ss
  without_none c [] e = refl
  without_none c (s ∷ ss) e = let h = or_false (eqb s.cell c) (has c (map stand_cell ss)) e in rw h.0 (ap (λ ys. s ∷ ys) (without_none c ss h.1))

  has_without : (x c : ℕ) (ss : List (Stand Z)) → has x (map stand_cell ss) ≡ false → has x (map stand_cell (stands_without c ss)) ≡ false
  has_without x c [] e = refl
  has_without x c (s ∷ ss) e = let h = or_false (eqb s.cell x) (has x (map stand_cell ss)) e in
      dite (ℕ_discrete s.cell c) (λ same. rw (eq-eqb s.cell c same) (has_without x c ss h.1))
      (λ other. rw (ne_eqb s.cell c other) (rw h.0 (has_without x c ss h.1)))

  pub once_without : (c : ℕ) (ss : List (Stand Z)) → are_once (map stand_cell ss) ≡ true → are_once (map stand_cell (stands_without c ss)) ≡ true
  once_without c [] e = refl
  once_without c (s ∷ ss) e = let h = and_true (not (has s.cell (map stand_cell ss))) (are_once (map stand_cell ss)) e in
      dite (ℕ_discrete s.cell c) (λ same. rw (eq-eqb s.cell c same) (once_without c ss h.1))
      (λ other. rw (ne_eqb s.cell c other) (both_true (not (has s.cell (map stand_cell (stands_without c ss)))) (are_once (map stand_cell (stands_without c ss)))
      (ap not (has_without s.cell c ss (not_true (has s.cell (map stand_cell ss)) h.0))) (once_without c ss h.1)))

  pub below_without : (n c : ℕ) (ss : List (Stand Z)) → are_below n (map stand_cell ss) ≡ true → are_below n (map stand_cell (stands_without c ss)) ≡ true
  below_without n c [] e = refl
  below_without n c (s ∷ ss) e = let h = and_true (ltb s.cell n) (are_below n (map stand_cell ss)) e in
      dite (ℕ_discrete s.cell c) (λ same. rw (eq-eqb s.cell c same) (below_without n c ss h.1))
      (λ other. rw (ne_eqb s.cell c other) (both_true (ltb s.cell n) (are_below n (map stand_cell (stands_without c ss))) h.0 (below_without n c ss h.1)))

  pub after_cells : (ts : List (Touch Z)) (ss : List (Stand Z)) → map stand_cell (stands_after ts ss) ≡ map stand_cell ss
  after_cells ts [] = refl
  after_cells ts (s ∷ ss) = ap (λ ys. s.cell ∷ ys) (after_cells ts ss)

  show_none : (c : ℕ) (z : Z) (hs : List (Hold Z)) → is_held c hs ≡ false → show_in c z hs ≡ hs
  show_none c z [] e = refl
  show_none c z (h ∷ hs) e = let b = or_false (eqb h.cell c) (is_held c hs) e in rw b.0 (ap (λ ys. h ∷ ys) (show_none c z hs b.1))

  without_held : (c : ℕ) (hs : List (Hold Z)) → is_held c hs ≡ false → without c hs ≡ hs
  without_held c [] e = refl
  without_held c (h ∷ hs) e = let b = or_false (eqb h.cell c) (is_held c hs) e in rw b.0 (ap (λ ys. h ∷ ys) (without_held c hs b.1))

module _ {T Z : Type 0} (state : T → Z) where
  abbrev H : List (Stand Z) → List (Held T) → List (Hold Z)
  H ss hs = holds_from state ss hs

  pub held_stands : (c : ℕ) (ss : List (Stand Z)) (hs : List (Held T)) → map stand_cell ss ≡ map held_cell hs → is_held c (H ss hs) ≡ stands_in c ss
  held_stands c [] hs e = refl
  held_stands c (s ∷ ss) [] e = cc
  held_stands c (s ∷ ss) (h ∷ hs) e = ap (λ b. eqb s.cell c || b) (held_stands c ss hs (cons_eq s.cell h.cell (map stand_cell ss) (map held_cell hs) e).1)

  pub held_has : (c : ℕ) (ss : List (Stand Z)) (hs : List (Held T)) → map stand_cell ss ≡ map held_cell hs → is_held c (H ss hs) ≡ has c (map held_cell hs)
  held_has c ss hs e = held_stands c ss hs e ∙ (stands_has c ss ∙ ap (has c) e)

  pub holds_end : (ss : List (Stand Z)) (hs : List (Held T)) (s : Stand Z) (h : Held T) → map stand_cell ss ≡ map held_cell hs
      → H (ss ++ s ∷ []) (hs ++ h ∷ []) ≡ H ss hs ++ hold s.cell s.state (state h.shown.value) ∷ []
  holds_end [] [] s h e = refl
  holds_end [] (x ∷ hs) s h e = cc
  holds_end (y ∷ ss) [] s h e = cc
  holds_end (y ∷ ss) (x ∷ hs) s h e = ap (λ zs. hold y.cell y.state (state x.shown.value) ∷ zs) (holds_end ss hs s h (cons_eq y.cell x.cell (map stand_cell ss) (map held_cell hs) e).1)

  pub holds_settled : (ss : List (Stand Z)) (hs : List (Held T)) → map stand_cell ss ≡ map held_cell hs → map settled_of (H ss hs) ≡ ss
  holds_settled [] hs e = refl
  holds_settled (s ∷ ss) [] e = cc
  holds_settled (s ∷ ss) (h ∷ hs) e = ap (λ zs. s ∷ zs) (holds_settled ss hs (cons_eq s.cell h.cell (map stand_cell ss) (map held_cell hs) e).1)

  pub holds_after : (ts : List (Touch Z)) (ss : List (Stand Z)) (hs : List (Held T)) → H (stands_after ts ss) hs ≡ settle ts (H ss hs)
  holds_after ts [] hs = refl
  holds_after ts (s ∷ ss) [] = refl
  holds_after ts (s ∷ ss) (h ∷ hs) = ap (λ zs. hold s.cell (after_in s.cell ts s.state) (state h.shown.value) ∷ zs) (holds_after ts ss hs)

  pub holds_shown : (c : ℕ) (x : Held T) (ss : List (Stand Z)) (hs : List (Held T)) → x.cell ≡ c → map stand_cell ss ≡ map held_cell hs → are_once (map held_cell hs) ≡ true → has c (map held_cell hs) ≡ true
      → H ss (set hs (place_in c (map held_cell hs)) x) ≡ show_in c (state x.shown.value) (H ss hs)
  holds_shown c x [] [] is e once there = refl
  holds_shown c x [] (h ∷ hs) is e once there = cc
  holds_shown c x (s ∷ ss) [] is e once there = cc
  holds_shown c x (s ∷ ss) (h ∷ hs) is e once there =
      let both = cons_eq s.cell h.cell (map stand_cell ss) (map held_cell hs) e in let o = and_true (not (has h.cell (map held_cell hs))) (are_once (map held_cell hs)) once in
      let z = state x.shown.value in
      dite (ℕ_discrete h.cell c)
      (λ same. rw (eq-eqb h.cell c same, eq-eqb s.cell c (both.0 ∙ same))
      (let bare : is_held c (H ss hs) ≡ false = held_has c ss hs both.1 ∙ subst (λ (j : ℕ). has j (map held_cell hs) ≡ false) same (not_true (has h.cell (map held_cell hs)) o.0) in
      ap (λ (j : ℕ). hold j s.state z ∷ H ss hs) (both.0 ∙ same) ∙ ap (λ zs. hold c s.state z ∷ zs) (sym (show_none c z (H ss hs) bare))))
      (λ other. rw (ne_eqb h.cell c other, ne_eqb s.cell c (λ q. other (sym both.0 ∙ q)))
      (ap (λ zs. hold s.cell s.state (state h.shown.value) ∷ zs) (holds_shown c x ss hs is both.1 o.1 (rw (ne_eqb h.cell c other) at there))))

  pub cells_left : (c : ℕ) (ss : List (Stand Z)) (hs : List (Held T)) → map stand_cell ss ≡ map held_cell hs → are_once (map held_cell hs) ≡ true → has c (map held_cell hs) ≡ true
      → map stand_cell (stands_without c ss) ≡ map held_cell (remove hs (place_in c (map held_cell hs)))
  cells_left c [] [] e once there = cc
  cells_left c [] (h ∷ hs) e once there = cc
  cells_left c (s ∷ ss) [] e once there = cc
  cells_left c (s ∷ ss) (h ∷ hs) e once there =
      let both = cons_eq s.cell h.cell (map stand_cell ss) (map held_cell hs) e in let o = and_true (not (has h.cell (map held_cell hs))) (are_once (map held_cell hs)) once in
      dite (ℕ_discrete h.cell c)
      (λ same. rw (eq-eqb h.cell c same, eq-eqb s.cell c (both.0 ∙ same))
      (ap (map stand_cell) (without_none c ss (ap (has c) both.1 ∙ subst (λ (j : ℕ). has j (map held_cell hs) ≡ false) same (not_true (has h.cell (map held_cell hs)) o.0))) ∙ both.1))
      (λ other. rw (ne_eqb h.cell c other, ne_eqb s.cell c (λ q. other (sym both.0 ∙ q)))
      (let rest = cells_left c ss hs both.1 o.1 (rw (ne_eqb h.cell c other) at there) in let front = both.0 in cc))

  pub holds_left : (c : ℕ) (ss : List (Stand Z)) (hs : List (Held T)) → map stand_cell ss ≡ map held_cell hs → are_once (map held_cell hs) ≡ true → has c (map held_cell hs) ≡ true
      → H (stands_without c ss) (remove hs (place_in c (map held_cell hs))) ≡ without c (H ss hs)
  holds_left c [] [] e once there = refl
  holds_left c [] (h ∷ hs) e once there = cc
  holds_left c (s ∷ ss) [] e once there = cc
  holds_left c (s ∷ ss) (h ∷ hs) e once there =
      let both = cons_eq s.cell h.cell (map stand_cell ss) (map held_cell hs) e in let o = and_true (not (has h.cell (map held_cell hs))) (are_once (map held_cell hs)) once in
      dite (ℕ_discrete h.cell c)
      (λ same. rw (eq-eqb h.cell c same, eq-eqb s.cell c (both.0 ∙ same))
      (let bare : has c (map stand_cell ss) ≡ false = ap (has c) both.1 ∙ subst (λ (j : ℕ). has j (map held_cell hs) ≡ false) same (not_true (has h.cell (map held_cell hs)) o.0) in
      ap (λ zs. H zs hs) (without_none c ss bare) ∙ sym (without_held c (H ss hs) (held_has c ss hs both.1 ∙ (ap (has c) (sym both.1) ∙ bare)))))
      (λ other. rw (ne_eqb h.cell c other, ne_eqb s.cell c (λ q. other (sym both.0 ∙ q)))
      (ap (λ zs. hold s.cell s.state (state h.shown.value) ∷ zs) (holds_left c ss hs both.1 o.1 (rw (ne_eqb h.cell c other) at there))))

  touch_from : (c : ℕ) (ss : List (Stand Z)) (hs : List (Held T)) (P : Stand Z → Type 0) → Each P ss → Each (λ t. P (stand t.cell t.before)) (touch_in c (H ss hs))
  touch_from c [] hs P e = tt
  touch_from c (s ∷ ss) [] P e = tt
  touch_from c (s ∷ ss) (h ∷ hs) P e = dite (ℕ_discrete s.cell c)
      (λ same. rw (eq-eqb s.cell c same) (subst (λ (j : ℕ). P (stand j s.state)) same e.0, tt))
      (λ other. rw (ne_eqb s.cell c other) (touch_from c ss hs P e.1))

  pub touches_from : (cs : List ℕ) (ss : List (Stand Z)) (hs : List (Held T)) (P : Stand Z → Type 0) → Each P ss → Each (λ t. P (stand t.cell t.before)) (touches_in cs (H ss hs))
  touches_from [] ss hs P e = tt
  touches_from (c ∷ cs) ss hs P e = each_append (λ t. P (stand t.cell t.before)) (touch_in c (H ss hs)) (touches_in cs (H ss hs)) (touch_from c ss hs P e) (touches_from cs ss hs P e)

  pub settled_each : (c : ℕ) (z : Z) (ss : List (Stand Z)) (hs : List (Held T)) → map stand_cell ss ≡ map held_cell hs → IsSettled c z (H ss hs) → Each (λ q. q.cell ≡ c → q.state ≡ z) ss
  settled_each c z [] hs e h = tt
  settled_each c z (s ∷ ss) [] e h = cc
  settled_each c z (s ∷ ss) (x ∷ hs) e h = (h.0, settled_each c z ss hs (cons_eq s.cell x.cell (map stand_cell ss) (map held_cell hs) e).1 h.1)
