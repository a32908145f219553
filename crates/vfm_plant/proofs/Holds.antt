-- Held cells: shown one after the other, drawn on, and left one after the other.
use Rattle.std.proofs.Common.{◌≡◌, ℕ, zero, suc, ◌<◌, ◌==◌, ◌||◌, ◌&&◌, not, Bool, true, false, if◌then◌else◌, List, [], ◌∷◌, ◌++◌, map, length, take, get_or, refl, ap, ap₂, sym, subst, ◌∙◌, arith, eqb-true}
use Rattle.std.proofs.lemmas.Bool.{eq-eqb, ne_eqb, eqb-false, cond-true, cond-false, false≢true, and_parts, or_parts}
use Rattle.vfm_turn.specs.declared.seen.Touch.{Touch}
use Rattle.vfm_turn.specs.Order.{has, are_once}
use Rattle.vfm_turn.specs.Seen.{Hold, hold, touch, is_held, are_held, IsSettled, show_in, without, touch_in, touches_in, after_in, settle}
use Rattle.vfm_laws.proofs.Rising.{by_bool}
use Rattle.vfm_cells.specs.Cells.{Cell}
use Rattle.vfm_plant.specs.declared.hand.Hand.{Hand}
use Rattle.vfm_plant.specs.Hands.{hand_cell, cells_held, held, AreParts, touches_by, AreAmong, rest_of}

-- ---- shown

abbrev put : ℕ → Cell → (ℕ → Cell) → ℕ → Cell
put c z at k = if k == c then z else at k

-- what is shown once these hands were shown
abbrev pub puts : List Hand → (ℕ → Cell) → ℕ → Cell
puts [] at = at
puts (h ∷ hands) at = puts hands (put h.cell h.part at)

shown_held : (c : ℕ) (z : Cell) (f g : ℕ → Cell) (cells : List ℕ) → show_in c z (held f g cells) ≡ held f (put c z g) cells
shown_held c z f g [] = refl
shown_held c z f g (k ∷ cells) =
    ap₂ (λ (h : Hold Cell) (hs : List (Hold Cell)). h ∷ hs)
    (by_bool (k == c) (λ b. (k == c) ≡ b → (if b then hold c (f k) z else hold k (f k) (g k)) ≡ hold k (f k) (if b then z else g k))
    (λ here e. ap (λ (j : ℕ). hold j (f k) z) (sym (eqb-true k c e))) (λ away e. refl) refl)
    (shown_held c z f g cells)

puts_end : (hands : List Hand) (h : Hand) (at : ℕ → Cell) → puts (hands ++ h ∷ []) at ≡ put h.cell h.part (puts hands at)
puts_end [] h at = refl
puts_end (x ∷ hands) h at = puts_end hands h (put x.cell x.part at)

-- one more is shown
pub shown_more : (before : ℕ → Cell) (cells : List ℕ) (hands : List Hand) (h : Hand)
    → show_in h.cell h.part (held before (puts hands before) cells) ≡ held before (puts (hands ++ h ∷ []) before) cells
shown_more before cells hands h =
    shown_held h.cell h.part before (puts hands before) cells ∙ ap (λ (at : ℕ → Cell). held before at cells) (sym (puts_end hands h before))

puts_as : (after : ℕ → Cell) (hands : List Hand) (at : ℕ → Cell) (k : ℕ) → AreParts after hands → at k ≡ after k → puts hands at k ≡ after k
puts_as after [] at k parts same = same
puts_as after (h ∷ hands) at k parts same =
    puts_as after hands (put h.cell h.part at) k parts.1
    (by_bool (k == h.cell) (λ b. (k == h.cell) ≡ b → (if b then h.part else at k) ≡ after k)
    (λ here e. sym parts.0 ∙ ap after (sym (eqb-true k h.cell e))) (λ away e. same) refl)

puts_is : (after : ℕ → Cell) (hands : List Hand) (at : ℕ → Cell) (k : ℕ) → AreParts after hands → has k (cells_held hands) ≡ true → puts hands at k ≡ after k
puts_is after [] at k parts among = absurd (false≢true among)
puts_is after (h ∷ hands) at k parts among =
    by_bool (h.cell == k) (λ b. (h.cell == k) ≡ b → (b || has k (cells_held hands)) ≡ true → puts hands (put h.cell h.part at) k ≡ after k)
    (λ here e among. let same : h.cell ≡ k = eqb-true h.cell k e in
    puts_as after hands (put h.cell h.part at) k parts.1 (cond-true _ _ _ (eq-eqb k h.cell (sym same)) ∙ (sym parts.0 ∙ ap after same)))
    (λ away e among. puts_is after hands (put h.cell h.part at) k parts.1 among) refl among

held_same : (f g g' : ℕ → Cell) (cells : List ℕ) → ((k : ℕ) → has k cells ≡ true → g k ≡ g' k) → held f g cells ≡ held f g' cells
held_same f g g' [] same = refl
held_same f g g' (k ∷ cells) same =
    ap₂ (λ (z : Cell) (hs : List (Hold Cell)). hold k (f k) z ∷ hs) (same k (ap (λ (b : Bool). b || has k cells) (eq-eqb k k refl)))
    (held_same f g g' cells (λ j among. same j (ap (λ (b : Bool). k == j || b) among ∙ or-true (k == j))))
  where
    or-true : (b : Bool) → (b || true) ≡ true
    or-true true = refl
    or-true false = refl

-- all are shown
pub all_shown : (before after : ℕ → Cell) (hands : List Hand) → AreParts after hands
    → held before (puts hands before) (cells_held hands) ≡ held before after (cells_held hands)
all_shown before after hands parts = held_same before (puts hands before) after (cells_held hands) (λ k among. puts_is after hands before k parts among)

pub held_has : (c : ℕ) (f g : ℕ → Cell) (cells : List ℕ) → is_held c (held f g cells) ≡ has c cells
held_has c f g [] = refl
held_has c f g (k ∷ cells) = ap (λ (b : Bool). k == c || b) (held_has c f g cells)

-- a hand of a list
pub has_hand : (hands : List Hand) (i : ℕ) (h : Hand) → i < length hands → h ≡ get_or hands i h → has h.cell (cells_held hands) ≡ true
has_hand [] i h inside is = absurd (omega arith)
has_hand (x ∷ hands) zero h inside is = ap (λ (b : Bool). b || has h.cell (cells_held hands)) (eq-eqb x.cell h.cell (ap hand_cell (sym is)))
has_hand (x ∷ hands) (suc i) h inside is = ap (λ (b : Bool). x.cell == h.cell || b) (has_hand hands i h (omega arith) is) ∙ or-true (x.cell == h.cell)
  where
    or-true : (b : Bool) → (b || true) ≡ true
    or-true true = refl
    or-true false = refl

pub take_hand : (hands : List Hand) (i : ℕ) (h : Hand) → i < length hands → h ≡ get_or hands i h → take i hands ++ h ∷ [] ≡ take (suc i) hands
take_hand [] i h inside is = absurd (omega arith)
take_hand (x ∷ hands) zero h inside is = ap (λ (y : Hand). y ∷ []) is
take_hand (x ∷ hands) (suc i) h inside is = ap (λ (hs : List Hand). x ∷ hs) (take_hand hands i h (omega arith) is)

-- ---- drawn on

pub all_held : (cells : List ℕ) (f g : ℕ → Cell) (others : List ℕ) → AreAmong cells others → are_held cells (held f g others) ≡ true
all_held [] f g others among = refl
all_held (c ∷ cells) f g others among = ap₂ (λ (a b : Bool). a && b) (held_has c f g others ∙ among.0) (all_held cells f g others among.1)

touch_held : (c : ℕ) (f g : ℕ → Cell) (others : List ℕ) → has c others ≡ true → touch_in c (held f g others) ≡ touch c (f c) (g c) ∷ []
touch_held c f g [] among = absurd (false≢true among)
touch_held c f g (k ∷ others) among =
    by_bool (k == c) (λ b. (k == c) ≡ b → (b || has c others) ≡ true
    → (if b then touch c (f k) (g k) ∷ [] else touch_in c (held f g others)) ≡ touch c (f c) (g c) ∷ [])
    (λ here e among. ap (λ (j : ℕ). touch c (f j) (g j) ∷ []) (eqb-true k c e))
    (λ away e among. touch_held c f g others among) refl among

pub touches_held : (cells : List ℕ) (f g : ℕ → Cell) (others : List ℕ) → AreAmong cells others → touches_in cells (held f g others) ≡ touches_by f g cells
touches_held [] f g others among = refl
touches_held (c ∷ cells) f g others among =
    ap₂ (λ (a b : List (Touch Cell)). a ++ b) (touch_held c f g others among.0) (touches_held cells f g others among.1)

after_by : (k : ℕ) (f g : ℕ → Cell) (cells : List ℕ) (z : Cell) → after_in k (touches_by f g cells) z ≡ (if has k cells then g k else z)
after_by k f g [] z = refl
after_by k f g (c ∷ cells) z =
    by_bool (c == k) (λ b. (c == k) ≡ b → (if b then g c else after_in k (touches_by f g cells) z) ≡ (if b || has k cells then g k else z))
    (λ here e. ap g (eqb-true c k e)) (λ away e. after_by k f g cells z) refl

settled_all : (touches : List (Touch Cell)) (f g : ℕ → Cell) (others : List ℕ) → ((c : ℕ) → has c others ≡ true → after_in c touches (f c) ≡ g c)
    → settle touches (held f g others) ≡ held g g others
settled_all touches f g [] same = refl
settled_all touches f g (k ∷ others) same =
    ap₂ (λ (z : Cell) (hs : List (Hold Cell)). hold k z (g k) ∷ hs) (same k (ap (λ (b : Bool). b || has k others) (eq-eqb k k refl)))
    (settled_all touches f g others (λ c among. same c (ap (λ (b : Bool). k == c || b) among ∙ or-true (k == c))))
  where
    or-true : (b : Bool) → (b || true) ≡ true
    or-true true = refl
    or-true false = refl

-- once an entry is drawn, each cell is settled as it is shown
pub settled_held : (cells : List ℕ) (f g : ℕ → Cell) (others : List ℕ)
    → ((c : ℕ) → has c others ≡ true → has c cells ≡ false → g c ≡ f c)
    → settle (touches_by f g cells) (held f g others) ≡ held g g others
settled_held cells f g others kept =
    settled_all (touches_by f g cells) f g others
    (λ c among. after_by c f g cells (f c)
    ∙ by_bool (has c cells) (λ b. has c cells ≡ b → (if b then g c else f c) ≡ g c) (λ touched e. refl) (λ apart e. sym (kept c among e)) refl)

-- ---- left

pub rest_held : (at : ℕ → Cell) (hands : List Hand) → AreParts at hands → held at at (cells_held hands) ≡ map rest_of hands
rest_held at [] parts = refl
rest_held at (h ∷ hands) parts =
    ap₂ (λ (z : Cell) (hs : List (Hold Cell)). hold h.cell z z ∷ hs) parts.0 (rest_held at hands parts.1)

pub rest_has : (c : ℕ) (hands : List Hand) → is_held c (map rest_of hands) ≡ has c (cells_held hands)
rest_has c [] = refl
rest_has c (h ∷ hands) = ap (λ (b : Bool). h.cell == c || b) (rest_has c hands)

pub map_end : {X Y : Type 0} (f : X → Y) (xs : List X) (x : X) → map f (xs ++ x ∷ []) ≡ map f xs ++ f x ∷ []
map_end f [] x = refl
map_end {X} {Y} f (y ∷ xs) x = ap (λ (ys : List Y). f y ∷ ys) (map_end f xs x)

pub has_end : (c : ℕ) (xs : List ℕ) → has c (xs ++ c ∷ []) ≡ true
has_end c [] = ap (λ (b : Bool). b || false) (eq-eqb c c refl)
has_end c (x ∷ xs) = ap (λ (b : Bool). x == c || b) (has_end c xs) ∙ or-true (x == c)
  where
    or-true : (b : Bool) → (b || true) ≡ true
    or-true true = refl
    or-true false = refl

has_front : (c y : ℕ) (xs : List ℕ) → has c (xs ++ y ∷ []) ≡ false → (has c xs ≡ false) × ((y == c) ≡ false)
has_front c y [] none = (refl, (or_parts (y == c) false none).0)
has_front c y (x ∷ xs) none =
    let both = or_parts (x == c) (has c (xs ++ y ∷ [])) none in
    let rest = has_front c y xs both.1 in
    (ap₂ (λ (a b : Bool). a || b) both.0 rest.0, rest.1)

not_true : (b : Bool) → not b ≡ true → b ≡ false
not_true true e = absurd (false≢true e)
not_true false e = refl

once_front : (xs : List ℕ) (y : ℕ) → are_once (xs ++ y ∷ []) ≡ true → (are_once xs ≡ true) × (has y xs ≡ false)
once_front [] y once = (refl, refl)
once_front (x ∷ xs) y once =
    let both = and_parts (not (has x (xs ++ y ∷ []))) (are_once (xs ++ y ∷ [])) once in
    let rest = once_front xs y both.1 in
    let apart = has_front x y xs (not_true (has x (xs ++ y ∷ [])) both.0) in (
      ap₂ (λ (a b : Bool). not a && b) apart.0 rest.0,
      ap₂ (λ (a b : Bool). a || b) (ne_eqb x y (λ same. eqb-false y x apart.1 (sym same))) rest.1,
    )

settled_apart : (c : ℕ) (z : Cell) (hands : List Hand) → has c (cells_held hands) ≡ false → (h : Hand) → h.cell ≡ c → h.part ≡ z
    → IsSettled c z (map rest_of (hands ++ h ∷ []))
settled_apart c z [] none h same is = (λ e. is, tt)
settled_apart c z (x ∷ hands) none h same is =
    let both = or_parts (x.cell == c) (has c (cells_held hands)) none in
    (λ e. absurd (eqb-false x.cell c both.0 e), settled_apart c z hands both.1 h same is)

without_none : (c : ℕ) (hands : List Hand) → has c (cells_held hands) ≡ false → (h : Hand) → h.cell ≡ c → without c (map rest_of (hands ++ h ∷ [])) ≡ map rest_of hands
without_none c [] none h same = cond-true _ _ _ (eq-eqb h.cell c same)
without_none c (x ∷ hands) none h same =
    let both = or_parts (x.cell == c) (has c (cells_held hands)) none in
    cond-false _ _ _ both.0 ∙ ap (λ (hs : List (Hold Cell)). rest_of x ∷ hs) (without_none c hands both.1 h same)

-- What is so of the last of the hands, and of those before it.
pub record LastHand (all : List (Hold Cell)) (hands : List Hand) (h : Hand) : Type 0 where
  pub held : is_held h.cell all ≡ true
  pub settled : IsSettled h.cell h.part all
  pub without : without h.cell all ≡ map rest_of hands
  pub once : are_once (cells_held hands) ≡ true

pub last_hand : (all : List (Hold Cell)) (items hands : List Hand) (h : Hand) → items ≡ hands ++ h ∷ [] → all ≡ map rest_of items → are_once (cells_held items) ≡ true
    → LastHand all hands h
last_hand all items hands h split is once =
    let whole : all ≡ map rest_of (hands ++ h ∷ []) = is ∙ ap (map rest_of) split in
    let numbers : cells_held items ≡ cells_held hands ++ h.cell ∷ [] = ap cells_held split ∙ map_end hand_cell hands h in
    let parts = once_front (cells_held hands) h.cell (ap are_once (sym numbers) ∙ once) in
    record {
      held = ap (is_held h.cell) whole ∙ (rest_has h.cell (hands ++ h ∷ []) ∙ (ap (has h.cell) (map_end hand_cell hands h) ∙ has_end h.cell (cells_held hands)));
      settled = subst (IsSettled h.cell h.part) (sym whole) (settled_apart h.cell h.part hands parts.1 h refl refl);
      without = ap (without h.cell) whole ∙ without_none h.cell hands parts.1 h refl;
      once = parts.0;
    }
