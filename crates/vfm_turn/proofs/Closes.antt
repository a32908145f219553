-- What is left of a board once every seat is taken in.
use Rattle.std.proofs.Common.{◌≡◌, ◌≢◌, ℕ, zero, suc, ◌+◌, ◌-◌, ◌<◌, ◌≤◌, true, false, List, [], ◌∷◌, ◌++◌, map, length, take, get_or, sym, refl, ap, ◌∙◌, subst, eq-eqb, ne_eqb, arith, Option, Some, None}
use mathlib.Core.Logic.{dite}
use mathlib.Core.Option.{some, some-injective, some-ne-none}
use native.Mathlib.Decide.{ℕ_discrete}
use lib.ListN.{get_elem?}
use Rattle.std.specs.List.{All, slice_get, range_with_len}
use Rattle.std.proofs.lemmas.Bool.{false≢true}
use Rattle.std.proofs.lemmas.List.{length-map}
use Rattle.atomic_table.specs.Table.{State, Final, Seen}
use Rattle.vfm_types.specs.declared.desc.Desc.{Desc}
use Rattle.vfm_turn.specs.declared.seen.Stand.{Stand}
use Rattle.vfm_turn.specs.declared.seen.Drawn.{Drawn}
use Rattle.vfm_turn.specs.declared.seen.Touch.{Touch}
use Rattle.vfm_turn.specs.declared.seen.Note.{Note}
use Rattle.vfm_turn.specs.declared.seen.Past.{Past}
use Rattle.vfm_turn.specs.declared.seen.View.{View}
use Rattle.vfm_turn.specs.declared.seen.Key.{Key}
use Rattle.vfm_turn.specs.declared.seen.Held.{Held}
use Rattle.vfm_turn.specs.Log.{Each, state_after, Begins, Stood, earlier, Ran, drawn_by, IsNote, IsPast}
use Rattle.vfm_turn.specs.Rule.{Ruled, stands_in, IsSpent, IsTakenIn}
use Rattle.vfm_turn.specs.Steps.{past_of}
use Rattle.vfm_turn.specs.Order.{has, held_cell, stand_cell, values_in, AreAllHome}
use Rattle.vfm_turn.specs.declared.kept.Kept.{Ghosts}
use Rattle.vfm_turn.specs.declared.ticket.Ticket.{Ticket}
use Rattle.vfm_turn.specs.Words.{holds_from, number_of, past_told}
use Rattle.vfm_turn.specs.History.{past_number, BeganAt, IsHistory}
use Rattle.vfm_turn.proofs.Lists.{each_weaken, each_all, each_snoc, at_lt, same_at}
use Rattle.vfm_turn.proofs.Runs.{all_each}

module _ {X : Type 0} where
  each_parts : (P : X → Type 0) (xs : List X) (x : X) → Each P (xs ++ x ∷ []) → Each P xs × P x
  each_parts P [] x e = (tt, e.0)
  each_parts P (y ∷ ys) x e = let r = each_parts P ys x e.1 in ((e.0, r.0), r.1)

  pub all_parts : (P : X → Type 0) (xs ys : List X) (x : X) → ys ≡ xs ++ x ∷ [] → All P ys → All P xs × P x
  all_parts P xs ys x e a = let r = each_parts P xs x (all_each P (xs ++ x ∷ []) (subst (All P) e a)) in (each_all P xs r.0, r.1)

  pub take_more : (xs : List X) (i : ℕ) (x : X) → get_elem? xs i ≡ some x → take i xs ++ x ∷ [] ≡ take (i + 1) xs
  take_more [] i x e = absurd (some-ne-none x (sym e))
  take_more (y ∷ ys) zero x e = ap (λ (z : X). z ∷ []) (sym (some-injective y x e))
  take_more (y ∷ ys) (suc i) x e = let n : suc i + 1 ≡ suc (i + 1) = omega arith in ap (λ zs. y ∷ zs) (take_more ys i x e) ∙ ap (λ (k : ℕ). take k (y ∷ ys)) (sym n)

  pub take_all : (xs : List X) (n : ℕ) → n ≡ length xs → take n xs ≡ xs
  take_all [] zero e = refl
  take_all [] (suc n) e = absurd (omega arith)
  take_all (x ∷ xs) zero e = absurd (omega arith)
  take_all (x ∷ xs) (suc n) e = ap (λ zs. x ∷ zs) (take_all xs n (omega arith))

  -- the value in a slot, where each slot has one
  pub value_at : (slots : List (Option X)) (values : List X) (i : ℕ) (o : Option X) → slots ≡ map Some values → get_elem? slots i ≡ some o → (x : X) × (o ≡ Some x) × (get_elem? values i ≡ some x)
  value_at [] [] i o e h = absurd (some-ne-none o (sym h))
  value_at [] (x ∷ xs) i o e h = cc
  value_at (s ∷ ss) [] i o e h = cc
  value_at (s ∷ ss) (x ∷ xs) zero o e h = let a = some-injective s o h in let b : s ≡ Some x = cc in (x, sym a ∙ b, refl)
  value_at (s ∷ ss) (x ∷ xs) (suc i) o e h = let b : ss ≡ map Some xs = cc in value_at ss xs i o b h

  -- slots that have each a value
  pub home_of : (slots : List (Option X)) → ((c : ℕ) → c < length slots → (x : X) × (get_elem? slots c ≡ some (Some x))) → AreAllHome slots
  home_of [] f = refl
  home_of (Some x ∷ slots) f = ap (λ zs. Some x ∷ zs) (home_of slots (λ c h. f (suc c) (omega arith)))
  home_of (None ∷ slots) f = let h = f 0 (omega arith) in let e = some-injective None (Some h.0) h.1 in cc

  pub get_elem : (xs : List X) (c : ℕ) (x : X) → slice_get xs c ≡ Some x → get_elem? xs c ≡ some x
  get_elem [] c x e = cc
  get_elem (y ∷ ys) zero x e = let s : y ≡ x = cc in ap some s
  get_elem (y ∷ ys) (suc c) x e = get_elem ys c x e

  pub elem_get : (xs : List X) (c : ℕ) (x : X) → get_elem? xs c ≡ some x → slice_get xs c ≡ Some x
  elem_get [] c x e = absurd (some-ne-none x (sym e))
  elem_get (y ∷ ys) zero x e = ap (λ (z : X). Some z) (some-injective y x e)
  elem_get (y ∷ ys) (suc c) x e = elem_get ys c x e

  there : (xs : List X) (c : ℕ) → c < length xs → (x : X) × (slice_get xs c ≡ Some x)
  there [] c h = absurd (omega arith)
  there (y ∷ ys) zero h = (y, refl)
  there (y ∷ ys) (suc c) h = there ys c (omega arith)

  map_get : {Y : Type 0} (f : X → Y) (xs : List X) (c : ℕ) (x : X) → slice_get xs c ≡ Some x → slice_get (map f xs) c ≡ Some (f x)
  map_get f [] c x e = cc
  map_get f (y ∷ ys) zero x e = let s : y ≡ x = cc in ap (λ (z : X). Some (f z)) s
  map_get f (y ∷ ys) (suc c) x e = map_get f ys c x e

  get_map : {Y : Type 0} (f : X → Y) (xs : List X) (c : ℕ) (y : Y) → slice_get (map f xs) c ≡ Some y → (x : X) × (slice_get xs c ≡ Some x) × (f x ≡ y)
  get_map f [] c y e = cc
  get_map f (x ∷ xs) zero y e = (x, refl, cc)
  get_map f (x ∷ xs) (suc c) y e = get_map f xs c y e

pub has_last : (c y : ℕ) (xs : List ℕ) → has c (xs ++ y ∷ []) ≡ true → has c xs ≡ false → y ≡ c
has_last c y [] e n = dite (ℕ_discrete y c) (λ same. same) (λ other. absurd (false≢true (rw (ne_eqb y c other) at e)))
has_last c y (x ∷ xs) e n = dite (ℕ_discrete x c) (λ same. absurd (false≢true (sym n ∙ rw (eq-eqb x c same) refl)))
    (λ other. has_last c y xs (rw (ne_eqb x c other) at e) (rw (ne_eqb x c other) at n))

pub has_before : (c y : ℕ) (xs : List ℕ) → has c xs ≡ false → y ≢ c → has c (xs ++ y ∷ []) ≡ false
has_before c y [] n other = rw (ne_eqb y c other) refl
has_before c y (x ∷ xs) n other = dite (ℕ_discrete x c) (λ same. absurd (false≢true (sym n ∙ rw (eq-eqb x c same) refl)))
    (λ apart. rw (ne_eqb x c apart) (has_before c y xs (rw (ne_eqb x c apart) at n) other))

module _ {T Z : Type 0} where
  pub none_held : (state : T → Z) (ss : List (Stand Z)) (hs : List (Held T)) → map stand_cell ss ≡ map held_cell hs → holds_from state ss hs ≡ [] → (ss ≡ []) × (hs ≡ [])
  none_held state [] [] e h = (refl, refl)
  none_held state [] (x ∷ hs) e h = cc
  none_held state (s ∷ ss) [] e h = cc
  none_held state (s ∷ ss) (x ∷ hs) e h = cc

-- the seats that one seat has taken in, and itself
abbrev pub told : {Z : Type 0} → View Z → List (Past Z)
told v = v.pasts ++ past_of v ∷ []

module _ {T Z : Type 0} (state : T → Z) (fits : Desc → ℕ → T → Type 0) (key : Key T) where
  abbrev n : ℕ
  n = length key.cells.value.items

  abbrev At : Type 0
  At = State (Option T) (View Z)

  told_is : (s : At) (r : Ruled state fits key s) (id : ℕ) (v : View Z) → get_elem? s.views id ≡ some v → v.live ≡ true → Each (IsPast n r.at r.log) (told v)
  told_is s r id v at live = let l = r.alive id v at live in each_snoc (IsPast n r.at r.log) v.pasts (past_of v) (each_weaken (IsTakenIn n r.at r.log s.views) (IsPast n r.at r.log) (λ p h. h.0) v.pasts l.taken)
      (l.drew ∙ ap (λ (j : ℕ). drawn_by j r.log) (sym l.numbered), l.noted)

  -- the number of one that was taken in, which isn't there any more, or of the seat itself
  spent_or : (s : At) (at : ℕ → Z) (log : List (Drawn Z)) (k m : ℕ) (ps : List (Past Z)) (q : Past Z) → Each (IsTakenIn n at log s.views) ps → has k (map past_number (ps ++ q ∷ [])) ≡ true → q.number ≢ k → IsSpent s.views k
  spent_or s at log k m [] q e h other = absurd (false≢true (rw (ne_eqb q.number k other) at h))
  spent_or s at log k m (p ∷ ps) q e h other = dite (ℕ_discrete p.number k) (λ same. subst (IsSpent s.views) same e.0.1)
      (λ apart. spent_or s at log k m ps q e.1 (rw (ne_eqb p.number k apart) at h) other)

  -- every cell is free
  all_free : (s : At) (r : Ruled state fits key s) (id : ℕ) (v : View Z) → get_elem? s.views id ≡ some v → v.live ≡ true → v.holds ≡ [] → ((k : ℕ) → k < key.seats → has k (map past_number (told v)) ≡ true)
      → (c : ℕ) → c < n → get_or s.words (c + 1) 0 ≡ 0
  all_free s r id v at live bare all c inside = dite (ℕ_discrete (get_or s.words (c + 1) 0) 0) (λ e. e) (λ full.
      let k = get_or s.words (c + 1) 0 - 1 in
      let word : get_or s.words (c + 1) 0 ≡ k + 1 = omega arith in
      let h = r.held c k inside word in let lt = at_lt s.views k h.0 h.1 in let within = r.within in let l = r.alive id v at live in
      dite (ℕ_discrete v.number k)
      (λ same. let e : h.0 ≡ v = same_at s.views k h.0 v h.1 (subst (λ (j : ℕ). get_elem? s.views j ≡ some v) (sym l.numbered ∙ same) at) in
      absurd (false≢true (ap (stands_in c) (sym (ap (λ (x : View Z). x.holds) e ∙ bare)) ∙ h.2)))
      (λ other. let g = spent_or s r.at r.log k 0 v.pasts (past_of v) l.taken (all k (omega arith)) other in
      let e : h.0 ≡ g.0 = same_at s.views k h.0 g.0 h.1 g.1 in
      absurd (false≢true (ap (stands_in c) (sym (ap (λ (x : View Z). x.holds) e ∙ r.spent k g.0 g.1 g.2)) ∙ h.2))))

  abbrev Ending : List ℕ → List (Option T) → ℕ → View Z → Type 0
  Ending words slots id v = Final (Seen (Ruled state fits key) id v) words slots

  -- each slot has a value, which fits its cell
  pub comes_home : (words : List ℕ) (slots : List (Option T)) (id : ℕ) (v : View Z) → Ending words slots id v → v.live ≡ true → v.holds ≡ [] → ((k : ℕ) → k < key.seats → has k (map past_number (told v)) ≡ true)
      → (length slots ≡ n) × ((c : ℕ) → c < length slots → (x : T) × (get_elem? slots c ≡ some (Some x)))
  comes_home words slots id v f live bare all = let r = f.1.0 in let deep = r.deep in let len = f.3 in (
    omega arith,
    λ c h. let inside : c < n = omega arith in let g = r.home c inside (all_free f.0 r id v f.1.1 live bare all c inside) in (g.0, f.4 c (Some g.0) g.1),
  )

  pub value_is : (words : List ℕ) (slots : List (Option T)) (values : List T) (id : ℕ) (v : View Z) → (f : Ending words slots id v) → v.live ≡ true → v.holds ≡ [] → ((k : ℕ) → k < key.seats → has k (map past_number (told v)) ≡ true)
      → slots ≡ map Some values → (c : ℕ) (x : T) → slice_get values c ≡ Some x → (state x ≡ state_after c (f.1.0.at c) f.1.0.log) × fits key.desc.value c x
  value_is words slots values id v f live bare all home c x e =
      let r = f.1.0 in let lt = at_lt values c x (get_elem values c x e) in let deep = r.deep in let len = f.3 in let m = ap length home ∙ length-map values (λ (y : T). Some y) in
      let inside : c < n = omega arith in
      let g = r.home c inside (all_free f.0 r id v f.1.1 live bare all c inside) in
      let w = value_at slots values c (Some g.0) home (f.4 c (Some g.0) g.1) in
      let s : Some g.0 ≡ Some w.0 = w.1 in let same : g.0 ≡ x = (let a : g.0 ≡ w.0 = cc in let b = same_at values c w.0 x w.2 (get_elem values c x e) in a ∙ b) in
      subst (λ (y : T). (state y ≡ state_after c (r.at c) r.log) × fits key.desc.value c y) same (g.2, g.3)

module _ {Z : Type 0} where
  begins_same : (n : ℕ) (f h : ℕ → Z) (ts : List (Touch Z)) → ((c : ℕ) → c < n → f c ≡ h c) → Begins n f ts → Begins n h ts
  begins_same n f h [] same b = tt
  begins_same n f h (t ∷ ts) same b = (b.0, b.1 ∙ same t.cell b.0, begins_same n f h ts same b.2)

  ran_same : (n : ℕ) (at bt : ℕ → Z) (log : List (Drawn Z)) → ((c : ℕ) → c < n → at c ≡ bt c) → Ran n at log → Ran n bt log
  ran_same n at bt [] same r = tt
  ran_same n at bt (e ∷ log) same r = (
    r.0,
    begins_same n (λ c. state_after c (at c) log) (λ c. state_after c (bt c) log) e.touches (λ c h. ap (λ (z : Z). state_after c z log) (same c h)) r.1,
    ran_same n at bt log same r.2,
  )

  note_same : (n : ℕ) (at bt : ℕ → Z) (log : List (Drawn Z)) → ((c : ℕ) → c < n → at c ≡ bt c) → (note : Note Z) → IsNote n at log note → IsNote n bt log note
  note_same n at bt log same note h = (
    h.0,
    each_weaken (Stood n at log note.answer) (Stood n bt log note.answer)
        (λ s st. (st.0, st.1 ∙ ap (λ (z : Z). state_after s.cell z (earlier note.answer log)) (same s.cell st.0))) note.stands h.1,
  )

module _ {T Z : Type 0} (state : T → Z) (fits : Desc → ℕ → T → Type 0) (key : Key T) where
  abbrev Started : List Z
  Started = map state key.cells.value.items

  -- each ticket's records and notes, and the values that came back, are those of one log
  pub history : (words : List ℕ) (slots : List (Option T)) (values : List T) (id : ℕ) (v : View Z) (tickets : List (Past Z)) → Ending state fits key words slots id v → v.live ≡ true → v.holds ≡ [] → told v ≡ tickets
      → ((k : ℕ) → k < key.seats → has k (map past_number tickets) ≡ true) → slots ≡ map Some values → 0 < n state fits key → IsHistory (record { started = Started; told = tickets; ended = map state values })
  history words slots values id v tickets f live bare same all home some_cells =
      let r = f.1.0 in let m = n state fits key in let xs = key.cells.value.items in
      let own : (k : ℕ) → k < key.seats → has k (map past_number (told v)) ≡ true = λ k h. ap (λ ps. has k (map past_number ps)) same ∙ all k h in
      let count : length Started ≡ m = length-map xs state in
      let deep = r.deep in let len = f.3 in let filled = ap length home ∙ length-map values (λ (y : T). Some y) in let mapped = length-map values state in
      let agree : (at : ℕ → Z) → BeganAt Started at → (c : ℕ) → c < m → r.at c ≡ at c = λ at b c h. (let x = there xs c h in r.starts c x.0 (get_elem xs c x.0 x.1) ∙ sym (b c (state x.0) (map_get state xs c x.0 x.1))) in (
        r.log,
        record {
          some_cells = omega arith;
          cells = omega arith;
          ran = λ at b. subst (λ (k : ℕ). Ran k at r.log) (sym count) (ran_same m r.at at r.log (agree at b) r.ran);
          told = λ at b. subst (λ (k : ℕ). All (IsPast k at r.log) tickets) (sym count) (each_all (IsPast m at r.log) tickets (subst (Each (IsPast m at r.log)) same
              (each_weaken (IsPast m r.at r.log) (IsPast m at r.log) (λ p h. (h.0, each_weaken (IsNote m r.at r.log) (IsNote m at r.log) (note_same m r.at at r.log (agree at b)) p.notes h.1)) (told v)
              (told_is state fits key f.0 r id v f.1.1 live))));
          ended = λ at b c z e. (let x = get_map state values c z e in let lt = at_lt values c x.0 (get_elem values c x.0 x.1) in
              let g = value_is state fits key words slots values id v f live bare own home c x.0 x.1 in
              sym x.2 ∙ (g.0 ∙ ap (λ (y : Z). state_after c y r.log) (agree at b c (omega arith))));
          no_others = each_all (λ e. has e.by (map past_number tickets) ≡ true) r.log (each_weaken (λ e. e.by < length f.0.views) (λ e. has e.by (map past_number tickets) ≡ true)
              (λ e h. let within = r.within in all e.by (omega arith)) r.log r.known);
        },
      )

module _ {T Z : Type 0} {g : Ghosts T Z} where
  pub numbers_told : (ts : List (Ticket T Z g)) → map past_number (map past_told ts) ≡ map number_of ts
  numbers_told [] = refl
  numbers_told (t ∷ ts) = let a : t.seat.me.0.number ≡ t.number = t.numbered in let r = numbers_told ts in cc

module _ {X : Type 0} where
  not_home : (slots : List (Option X)) (values : List X) → None ∷ slots ≡ map Some values → ⊥
  not_home slots [] e = cc
  not_home slots (x ∷ xs) e = cc

  -- the last slot, and those before it
  pub home_parts : (xs : List (Option X)) (o : Option X) → AreAllHome (xs ++ o ∷ []) → (v : X) × (o ≡ Some v) × AreAllHome xs × (values_in (xs ++ o ∷ []) ≡ values_in xs ++ v ∷ [])
  home_parts [] (Some v) e = (v, refl, refl, refl)
  home_parts [] None e = absurd (not_home [] [] e)
  home_parts (Some y ∷ xs) o e = let rest : xs ++ o ∷ [] ≡ map Some (values_in (xs ++ o ∷ [])) = cc in let r = home_parts xs o rest in
      (r.0, r.1, ap (λ zs. Some y ∷ zs) r.2, ap (λ zs. y ∷ zs) r.3)
  home_parts (None ∷ xs) o e = absurd (not_home (xs ++ o ∷ []) (values_in (xs ++ o ∷ [])) e)

pub range_end : (a k : ℕ) → range_with_len a (k + 1) ≡ range_with_len a k ++ (a + k) ∷ []
range_end a zero = let e : a + 0 ≡ a = omega arith in ap (λ (j : ℕ). j ∷ []) (sym e)
range_end a (suc k) = let e : suc k + 1 ≡ suc (k + 1) = omega arith in let h : a + 1 + k ≡ a + suc k = omega arith in
    ap (range_with_len a) e ∙ (ap (λ ys. a ∷ ys) (range_end (a + 1) k) ∙ ap (λ (j : ℕ). a ∷ (range_with_len (a + 1) k ++ j ∷ [])) h)

-- each number below k is among the first k
pub has_range : (a k j : ℕ) → a ≤ j → j < a + k → has j (range_with_len a k) ≡ true
has_range a zero j low high = absurd (omega arith)
has_range a (suc k) j low high = dite (ℕ_discrete a j) (λ same. rw (eq-eqb a j same) refl) (λ other. rw (ne_eqb a j other) (has_range (a + 1) k j (omega arith) (omega arith)))

pub values_some : {X : Type 0} (xs : List X) → values_in (map (λ (x : X). Some x) xs) ≡ xs
values_some [] = refl
values_some (x ∷ xs) = ap (λ ys. x ∷ ys) (values_some xs)

pub home_some : {X : Type 0} (slots : List (Option X)) (xs : List X) → slots ≡ map (λ (x : X). Some x) xs → AreAllHome slots
home_some slots xs e = e ∙ ap (map (λ x. Some x)) (sym (ap values_in e ∙ values_some xs))
