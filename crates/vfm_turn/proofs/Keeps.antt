-- Each step keeps the rule of the board.
use Rattle.std.proofs.Common.{◌≡◌, ◌≢◌, ℕ, zero, suc, ◌+◌, ◌-◌, ◌%◌, ◌^◌, ◌<◌, ◌≤◌, ⊎_elim, Bool, true, false, ◌||◌, eqb, List, [], ◌∷◌, ◌++◌, map, length, get_or, set, sym, refl, ap, ◌∙◌, subst, eq-eqb, ne_eqb, arith, Option, Some, replicate, length-set, length-append, get_or-set_other, get_or-set_same, MatchBool}
use mathlib.Core.Logic.{dite}
use mathlib.Core.Option.{none, some, some-injective, some-ne-none}
use native.Mathlib.Decide.{ℕ_discrete}
use lib.ListN.{get_elem?, length-map, length-replicate, get_or-replicate}
use lib.Seq.{set-get_or}
use Rattle.std.proofs.Math.Nat.{mod-eq_of_lt}
use prog.Atomic.{either}
use Rattle.std.proofs.lemmas.Bool.{false≢true}
use Rattle.std.specs.List.{All}
use Rattle.std.specs.declared.snapshot.Snapshot.{Snapshot}
use Rattle.atomic_table.specs.Table.{State, Me, step, Act, keeps, takes, gives, stepped, carried_after, Valid, Allows, Splits, Joins, opening, rest}
use Rattle.atomic_table.proofs.Lists.{at_set, set_here, set_else, at_longer, at_map}
use Rattle.vfm_types.specs.declared.desc.Desc.{Desc}
use Rattle.vfm_types.specs.declared.entry.Entry.{Entry}
use Rattle.vfm_turn.specs.declared.seen.Stand.{Stand}
use Rattle.vfm_turn.specs.declared.seen.Touch.{Touch}
use Rattle.vfm_turn.specs.declared.seen.Drawn.{Drawn}
use Rattle.vfm_turn.specs.declared.seen.Note.{Note}
use Rattle.vfm_turn.specs.declared.seen.Past.{Past}
use Rattle.vfm_turn.specs.declared.seen.View.{View}
use Rattle.vfm_turn.specs.declared.seen.Key.{Key}
use Rattle.vfm_turn.specs.Seen.{stand, drawn, note, after_in}
use Rattle.vfm_turn.specs.Log.{Each, state_after, Ran, drawn_by, Stood, IsNote}
use Rattle.vfm_turn.specs.Rule.{Ruled, first_view, stands_in, IsSpent, IsTakenIn, IsHeldBy, IsLive}
use Rattle.vfm_turn.specs.Steps.{stands_without, stands_after, view_entered, view_met, view_drew, view_noted, view_left, has_made, new_view, past_of, taken_in, spent_view, entering, entering_at, drawing, noting, leaving, leaving_at}
use Rattle.vfm_turn.proofs.Lists.{each_weaken, each_snoc, at_lt, at_end, same_at}
use Rattle.vfm_turn.proofs.Logs.{drawn_here, drawn_else, drawn_none, length_bound, earlier_all, note_more, after_else, begins, own_stamps_below, answers_below}

or_on : (b x y : Bool) → (x ≡ true → y ≡ true) → (b || x) ≡ true → (b || y) ≡ true
or_on true x y f e = refl
or_on false x y f e = f e

or_right : (b y : Bool) → y ≡ true → (b || y) ≡ true
or_right true y e = refl
or_right false y e = e

-- The cells that a seat holds
module _ {Z : Type 0} where
  pub in_more : (c : ℕ) (ss : List (Stand Z)) (x : Stand Z) → stands_in c ss ≡ true → stands_in c (ss ++ x ∷ []) ≡ true
  in_more c [] x e = absurd (false≢true e)
  in_more c (s ∷ ss) x e = or_on (eqb s.cell c) (stands_in c ss) (stands_in c (ss ++ x ∷ [])) (in_more c ss x) e

  pub in_last : (c : ℕ) (ss : List (Stand Z)) (z : Z) → stands_in c (ss ++ stand c z ∷ []) ≡ true
  in_last c [] z = rw (eq-eqb c c refl) refl
  in_last c (s ∷ ss) z = or_right (eqb s.cell c) (stands_in c (ss ++ stand c z ∷ [])) (in_last c ss z)

  pub in_after : (c : ℕ) (ts : List (Touch Z)) (ss : List (Stand Z)) → stands_in c (stands_after ts ss) ≡ stands_in c ss
  in_after c ts [] = refl
  in_after c ts (s ∷ ss) = ap (λ b. eqb s.cell c || b) (in_after c ts ss)

  pub in_without : (c d : ℕ) (ss : List (Stand Z)) → d ≢ c → stands_in d ss ≡ true → stands_in d (stands_without c ss) ≡ true
  in_without c d [] n e = absurd (false≢true e)
  in_without c d (s ∷ ss) n e = dite (ℕ_discrete s.cell c)
      (λ same. rw (eq-eqb s.cell c same) (in_without c d ss n (rw (ne_eqb s.cell d (λ h. n (sym h ∙ same))) at e)))
      (λ other. rw (ne_eqb s.cell c other) (or_on (eqb s.cell d) (stands_in d ss) (stands_in d (stands_without c ss)) (in_without c d ss n) e))

  pub find_in : (P : Stand Z → Type 0) (c : ℕ) (ss : List (Stand Z)) → Each P ss → stands_in c ss ≡ true → (s : Stand Z) × (s.cell ≡ c) × P s
  find_in P c [] each e = absurd (false≢true e)
  find_in P c (s ∷ ss) each e = dite (ℕ_discrete s.cell c) (λ same. (s, same, each.0))
      (λ other. find_in P c ss each.1 (rw (ne_eqb s.cell c other) at e))

  pub each_without : (P : Stand Z → Type 0) (c : ℕ) (ss : List (Stand Z)) → Each P ss → Each (λ s. P s × (s.cell ≢ c)) (stands_without c ss)
  each_without P c [] each = tt
  each_without P c (s ∷ ss) each = dite (ℕ_discrete s.cell c)
      (λ same. rw (eq-eqb s.cell c same) (each_without P c ss each.1))
      (λ other. rw (ne_eqb s.cell c other) ((each.0, other), each_without P c ss each.1))

  pub each_after : (P Q : Stand Z → Type 0) (ts : List (Touch Z)) → ((s : Stand Z) → P s → Q (stand s.cell (after_in s.cell ts s.state))) → (ss : List (Stand Z)) → Each P ss → Each Q (stands_after ts ss)
  each_after P Q ts f [] each = tt
  each_after P Q ts f (s ∷ ss) each = (f s each.0, each_after P Q ts f ss each.1)

  -- what holds of each held cell holds of each touched cell, in the state before
  abbrev pub IsFrom : List (Stand Z) → List (Touch Z) → Type 1
  IsFrom ss ts = (P : Stand Z → Type 0) → Each P ss → Each (λ t. P (stand t.cell t.before)) ts

  -- a seat that isn't there any more is no other than one that is
  pub spent_apart : (views : List (View Z)) (id k : ℕ) (v : View Z) → get_elem? views id ≡ some v → v.live ≡ true → IsSpent views k → k ≢ id
  spent_apart views id k v at live gone e =
      let same : gone.0 ≡ v = same_at views k gone.0 v gone.1 (subst (λ (j : ℕ). get_elem? views j ≡ some v) (sym e) at) in
      false≢true (sym gone.2 ∙ (ap (λ (x : View Z). x.live) same ∙ live))

  pub spent_on : (views : List (View Z)) (id : ℕ) (v w : View Z) → get_elem? views id ≡ some v → v.live ≡ true → (k : ℕ) → IsSpent views k → IsSpent (set views id w) k
  spent_on views id v w at live k gone = (gone.0, set_else views id k w (spent_apart views id k v at live gone) ∙ gone.1, gone.2)

  pub held_on : (views : List (View Z)) (id k c : ℕ) (v w : View Z) → get_elem? views id ≡ some v → (stands_in c v.holds ≡ true → stands_in c w.holds ≡ true)
      → (u : View Z) → get_elem? views k ≡ some u → stands_in c u.holds ≡ true → (x : View Z) × (get_elem? (set views id w) k ≡ some x) × (stands_in c x.holds ≡ true)
  held_on views id k c v w at keep u here holds = dite (ℕ_discrete k id)
      (λ e. let same : u ≡ v = same_at views id u v (subst (λ (j : ℕ). get_elem? views j ≡ some u) e here) at in
      (w, subst (λ (j : ℕ). get_elem? (set views id w) j ≡ some w) (sym e) (set_here views id w (at_lt views id v at)), keep (subst (λ (x : View Z). stands_in c x.holds ≡ true) same holds)))
      (λ n. (u, set_else views id k w n ∙ here, holds))

  -- what is so of a seat stays so, where the log and the words change elsewhere
  pub lives_on : (n : ℕ) (at : ℕ → Z) (log log' : List (Drawn Z)) (words words' : List ℕ) (views views' : List (View Z)) (desc : Snapshot Desc) (seats k : ℕ) (v : View Z)
      → drawn_by k log' ≡ drawn_by k log → ((x : Note Z) → IsNote n at log x → IsNote n at log' x)
      → ((s : Stand Z) → IsHeldBy n at log words k s → IsHeldBy n at log' words' k s)
      → ((p : Past Z) → IsTakenIn n at log views p → IsTakenIn n at log' views' p)
      → IsLive n at log words views desc seats k v → IsLive n at log' words' views' desc seats k v
  lives_on n at log log' words words' views views' desc seats k v own notes holds pasts l = record {
    numbered = l.numbered;
    described = l.described;
    seated = l.seated;
    drew = l.drew ∙ sym own;
    noted = each_weaken (IsNote n at log) (IsNote n at log') notes v.notes l.noted;
    holding = each_weaken (IsHeldBy n at log words k) (IsHeldBy n at log' words' k) holds v.holds l.holding;
    taken = each_weaken (IsTakenIn n at log views) (IsTakenIn n at log' views') pasts v.pasts l.taken;
  }

each_both : {X : Type 0} (P Q : X → Type 0) (xs : List X) → Each P xs → Each Q xs → Each (λ x. P x × Q x) xs
each_both P Q [] a b = tt
each_both P Q (x ∷ xs) a b = ((a.0, b.0), each_both P Q xs a.1 b.1)

nth : {X : Type 0} (xs : List X) (k : ℕ) → k < length xs → X
nth [] k h = absurd (omega arith)
nth (x ∷ xs) zero h = x
nth (x ∷ xs) (suc k) h = nth xs k (omega arith)

nth_at : {X : Type 0} (xs : List X) (k : ℕ) (h : k < length xs) → get_elem? xs k ≡ some (nth xs k h)
unfolding nth
nth_at [] k h = absurd (omega arith)
nth_at (x ∷ xs) zero h = refl
nth_at (x ∷ xs) (suc k) h = nth_at xs k _

get_or_at : {X : Type 0} (xs : List X) (k : ℕ) (x d : X) → get_elem? xs k ≡ some x → get_or xs k d ≡ x
get_or_at [] k x d h = absurd (some-ne-none x (sym h))
get_or_at (y ∷ ys) zero x d h = some-injective y x h
get_or_at (y ∷ ys) (suc k) x d h = get_or_at ys k x d h

only_one : {X : Type 0} (x : X) (P : ℕ → X → Type 0) → P 0 x → (k : ℕ) (y : X) → get_elem? (x ∷ []) k ≡ some y → P k y
only_one x P p zero y h = subst (P 0) (some-injective x y h) p
only_one x P p (suc k) y h = absurd (some-ne-none y (sym h))

some_same : {X : Type 0} (x y : X) → Some x ≡ Some y → x ≡ y
some_same x y e = cc

module _ {T Z : Type 0} (state : T → Z) (fits : Desc → ℕ → T → Type 0) (key : Key T) where
  abbrev S : Type 0
  S = State (Option T) (View Z)

  abbrev M : Type 0
  M = Me (Option T) (View Z)

  abbrev Rule : S → Type 0
  Rule = Ruled state fits key

  abbrev n : ℕ
  n = length key.cells.value.items

  abbrev Live : (ℕ → Z) → List (Drawn Z) → List ℕ → List (View Z) → ℕ → View Z → Type 0
  Live at log words views k v = IsLive n at log words views key.desc key.seats k v

  abbrev Home : (ℕ → Z) → List (Drawn Z) → List (mathlib.Core.Option.Option (Option T)) → ℕ → Type 0
  Home at log homes c = (x : T) × (get_elem? homes c ≡ some (some (Some x))) × (state x ≡ state_after c (at c) log) × fits key.desc.value c x

  abbrev Held : List (View Z) → ℕ → ℕ → Type 0
  Held views c k = (v : View Z) × (get_elem? views k ≡ some v) × (stands_in c v.holds ≡ true)

  -- a step of one seat, which stays there
  moves : (s : S) (r : Rule s) (id : ℕ) (v w : View Z) (words' : List ℕ) (homes' : List (mathlib.Core.Option.Option (Option T))) (log' : List (Drawn Z))
      → get_elem? s.views id ≡ some v → v.live ≡ true → w.live ≡ true → w.newest ≡ v.newest → length words' ≡ length s.words → length homes' ≡ length s.homes
      → get_or words' 0 0 ≡ length log' → Ran n r.at log' → Each (λ e. e.by < length s.views) log' → ((k : ℕ) → length (drawn_by k log') ≤ 4294967296)
      → ((c : ℕ) → c < n → get_or words' (c + 1) 0 ≡ 0 → Home r.at log' homes' c)
      → ((c k : ℕ) → c < n → get_or words' (c + 1) 0 ≡ k + 1 → Held (set s.views id w) c k)
      → Live r.at log' words' (set s.views id w) id w
      → ((k : ℕ) (u : View Z) → k ≢ id → get_elem? s.views k ≡ some u → Live r.at r.log s.words s.views k u → Live r.at log' words' (set s.views id w) k u)
      → Rule record { words = words'; homes = homes'; views = set s.views id w }
  moves s r id v w words' homes' log' at live live' made wide deep counted ran known few home held mine others = let len = length-set s.views id w in record {
    log = log';
    at = r.at;
    starts = r.starts;
    wide = wide ∙ r.wide;
    deep = deep ∙ r.deep;
    counted = counted;
    ran = ran;
    known = each_weaken (λ e. e.by < length s.views) (λ e. e.by < length (set s.views id w)) (λ e h. omega arith) log' known;
    few = few;
    first = let f = r.first in omega arith;
    within = let f = r.within in omega arith;
    limit = r.limit;
    home = home;
    held = held;
    alive = λ k u here there. ⊎_elim (λ (t : (k ≡ id) × (w ≡ u)). subst (λ (p : ℕ × View Z). Live r.at log' words' (set s.views id w) p.0 p.1) (λ i. (sym t.0 i, t.1 i)) mine)
        (λ (t : (k ≢ id) × (get_elem? s.views k ≡ some u)). others k u t.0 t.1 (r.alive k u t.1 there)) (at_set s.views id k w u here);
    spent = λ k u here gone. ⊎_elim (λ (t : (k ≡ id) × (w ≡ u)). absurd (false≢true (sym gone ∙ (ap (λ (x : View Z). x.live) (sym t.1) ∙ live'))))
        (λ (t : (k ≢ id) × (get_elem? s.views k ≡ some u)). r.spent k u t.1 gone) (at_set s.views id k w u here);
    newest = λ k u here there young. ⊎_elim (λ (t : (k ≡ id) × (w ≡ u)). len ∙ (r.newest id v at live (sym made ∙ (ap (λ (x : View Z). x.newest) t.1 ∙ young)) ∙ ap (λ (j : ℕ). j + 1) (sym t.0)))
        (λ (t : (k ≢ id) × (get_elem? s.views k ≡ some u)). len ∙ r.newest k u t.1 there young) (at_set s.views id k w u here);
  }

  -- what others took in stays taken in over a step of a seat that is there
  taken_on : (s : S) (at : ℕ → Z) (log log' : List (Drawn Z)) (id : ℕ) (v w : View Z) → get_elem? s.views id ≡ some v → v.live ≡ true
      → ((x : Note Z) → IsNote n at log x → IsNote n at log' x) → ((k : ℕ) → k ≢ id → drawn_by k log' ≡ drawn_by k log)
      → (p : Past Z) → IsTakenIn n at log s.views p → IsTakenIn n at log' (set s.views id w) p
  taken_on s at log log' id v w here live notes apart p t = (
    (t.0.0 ∙ sym (apart p.number (spent_apart s.views id p.number v here live t.1)), each_weaken (IsNote n at log) (IsNote n at log') notes p.notes t.0.1),
    spent_on s.views id v w here live p.number t.1,
  )

  -- a step that leaves the words, the cells and the log as they are
  stays : (s : S) (r : Rule s) (i id : ℕ) (v w : View Z) → get_elem? s.views id ≡ some v → v.live ≡ true → w.live ≡ true → w.newest ≡ v.newest → w.holds ≡ v.holds
      → Live r.at r.log s.words s.views id w → Rule record { words = set s.words i (get_or s.words i 0); homes = s.homes; views = set s.views id w }
  stays s r i id v w at live live' made holds mine = let on = taken_on s r.at r.log r.log id v w at live (λ x h. h) (λ k h. refl) in
      subst (λ (ws : List ℕ). Rule record { words = ws; homes = s.homes; views = set s.views id w }) (sym (set-get_or s.words i 0))
      (moves s r id v w s.words s.homes r.log at live live' made refl refl r.counted r.ran r.known r.few r.home
      (λ c k inside word. let h = r.held c k inside word in held_on s.views id k c v w at (λ e. ap (stands_in c) holds ∙ e) h.0 h.1 h.2)
      (lives_on n r.at r.log r.log s.words s.words s.views (set s.views id w) key.desc key.seats id w refl (λ x h. h) (λ x h. h) on mine)
      (λ k u other here l. lives_on n r.at r.log r.log s.words s.words s.views (set s.views id w) key.desc key.seats k u refl (λ x h. h) (λ x h. h) on l))

  -- a board has drawn fewer than 2^39 stamps
  few_found : (s : S) → Rule s → get_or s.words 0 0 < 2 ^ 39
  few_found s r =
      let bound = length_bound (length s.views) 4294967296 r.log r.known r.few in
      let within = r.within in let limit = r.limit in let counted = r.counted in omega arith

  -- a seat reads word 0
  pub notes : (slots id : ℕ) (me : M) → me.0.live ≡ true → Allows Rule slots id me 0 (λ m. m) (noting (step slots 0 0 0 none) me)
  notes slots id me live s r deep at lt = let v = me.0 in let l = r.alive id v at live in let found = get_or s.words 0 0 in let w = view_noted found v in
      let stood : Each (Stood n r.at r.log (length r.log)) v.holds = each_weaken (IsHeldBy n r.at r.log s.words id) (Stood n r.at r.log (length r.log))
      (λ x h. (h.0, h.2 ∙ ap (state_after x.cell (r.at x.cell)) (sym (earlier_all r.log)))) v.holds l.holding in
      let noted : IsNote n r.at r.log (note found v.holds) = (let c = r.counted in omega arith, subst (λ (a : ℕ). Each (Stood n r.at r.log a) v.holds) (sym r.counted) stood) in
      let mine : Live r.at r.log s.words s.views id w = record {
        numbered = l.numbered;
        described = l.described;
        seated = l.seated;
        drew = l.drew;
        noted = (noted, l.noted);
        holding = l.holding;
        taken = l.taken;
      } in (
        w,
        keeps,
        tt,
        stays s r 0 id v w at live live refl refl mine,
        (
          refl,
          refl,
          subst (λ (rs : List (Drawn Z)). All (λ e. e.stamp < found) rs) (sym l.drew) (subst (λ (a : ℕ). All (λ e. e.stamp < a) (drawn_by id r.log)) (sym r.counted) (own_stamps_below n r.at id r.log r.ran)),
          subst (λ (a : ℕ). All (λ x. x.answer ≤ a) v.notes) (sym r.counted) (answers_below n r.at r.log v.notes l.noted),
          few_found s r,
        ),
      )

  -- a seat draws a stamp, for an entry that touches cells which it holds
  pub draws : (slots id : ℕ) (me : M) (entry : Entry) (ts : List (Touch Z)) → me.0.live ≡ true → IsFrom me.0.holds ts → length me.0.records < 4294967296
      → Allows Rule slots id me 0 (λ m. (m + 1) % 2 ^ 64) (drawing entry ts (step slots 0 1 0 none) me)
  draws slots id me entry ts live from few s r deep at lt =
      let v = me.0 in let l = r.alive id v at live in let found = get_or s.words 0 0 in let w = view_drew found entry ts v in let e = drawn v.number found entry ts in let log' = e ∷ r.log in
      let own : v.number ≡ id = l.numbered in
      let from_held = from (IsHeldBy n r.at r.log s.words id) l.holding in
      let wide = r.wide in let within = r.within in let limit = r.limit in let counted = r.counted in let inside = at_lt s.views id v at in
      let bound = length_bound (length s.views) 4294967296 r.log r.known r.few in
      let small : found + 1 < 2 ^ 64 = omega arith in
      let next : (found + 1) % 2 ^ 64 ≡ length log' = mod-eq_of_lt small ∙ omega arith in
      let words' = set s.words 0 ((found + 1) % 2 ^ 64) in
      let else_word : (c : ℕ) → get_or words' (c + 1) 0 ≡ get_or s.words (c + 1) 0 = λ c. get_or-set_other s.words 0 (c + 1) ((found + 1) % 2 ^ 64) 0 (λ h. omega arith) in
      let apart : (k c : ℕ) → k ≢ id → get_or s.words (c + 1) 0 ≡ k + 1 → Each (λ t. t.cell ≢ c) ts = λ k c other word. each_weaken (λ t. IsHeldBy n r.at r.log s.words id (stand t.cell t.before)) (λ t. t.cell ≢ c)
      (λ t h same. other (let a = h.1 in let b = subst (λ (j : ℕ). get_or s.words (j + 1) 0 ≡ id + 1) same h.1 in omega arith)) ts from_held in
      let free : (c : ℕ) → get_or s.words (c + 1) 0 ≡ 0 → Each (λ t. t.cell ≢ c) ts = λ c word. each_weaken (λ t. IsHeldBy n r.at r.log s.words id (stand t.cell t.before)) (λ t. t.cell ≢ c)
      (λ t h same. let b = subst (λ (j : ℕ). get_or s.words (j + 1) 0 ≡ id + 1) same h.1 in omega arith) ts from_held in
      let noted = λ (x : Note Z) (h : IsNote n r.at r.log x). note_more n r.at e r.log x h in
      let drawn_apart : (k : ℕ) → k ≢ id → drawn_by k log' ≡ drawn_by k r.log = λ k other. drawn_else k e r.log (λ same. other (sym same ∙ own)) in
      let on = taken_on s r.at r.log log' id v w at live noted drawn_apart in
      let mine : Live r.at log' words' (set s.views id w) id w = record {
        numbered = own;
        described = l.described;
        seated = l.seated;
        drew = ap (λ (rs : List (Drawn Z)). e ∷ rs) l.drew ∙ sym (drawn_here id e r.log own);
        noted = each_weaken (IsNote n r.at r.log) (IsNote n r.at log') noted v.notes l.noted;
        holding = each_after (IsHeldBy n r.at r.log s.words id) (IsHeldBy n r.at log' words' id) ts
            (λ x h. (h.0, else_word x.cell ∙ h.1, ap (after_in x.cell ts) h.2)) v.holds l.holding;
        taken = each_weaken (IsTakenIn n r.at r.log s.views) (IsTakenIn n r.at log' (set s.views id w)) on v.pasts l.taken;
      } in (
        w,
        keeps,
        tt,
        moves s r id v w words' s.homes log' at live live refl (length-set s.words 0 ((found + 1) % 2 ^ 64)) refl
            (get_or-set_same s.words 0 ((found + 1) % 2 ^ 64) 0 (omega arith) ∙ next)
            (counted, begins n (λ c. state_after c (r.at c) r.log) ts (each_weaken (λ t. IsHeldBy n r.at r.log s.words id (stand t.cell t.before)) (λ t. (t.cell < n) × (t.before ≡ state_after t.cell (r.at t.cell) r.log)) (λ t h. (h.0, h.2)) ts from_held), r.ran)
            (omega arith, r.known)
            (λ k. dite (ℕ_discrete v.number k)
            (λ same. let a = ap length (drawn_here k e r.log same) in let b = ap length (l.drew ∙ ap (λ (j : ℕ). drawn_by j r.log) (sym own ∙ same)) in omega arith)
            (λ other. let a = ap length (drawn_else k e r.log other) in let b = r.few k in omega arith))
            (λ c inside word. let old = sym (else_word c) ∙ word in let h = r.home c inside old in
            (h.0, h.1, h.2 ∙ sym (after_else c ts (state_after c (r.at c) r.log) (free c old)), h.3))
            (λ c k inside word. let h = r.held c k inside (sym (else_word c) ∙ word) in held_on s.views id k c v w at (λ b. in_after c ts v.holds ∙ b) h.0 h.1 h.2)
            mine
            (λ k u other here. lives_on n r.at r.log log' s.words words' s.views (set s.views id w) key.desc key.seats k u (drawn_apart k other) noted
            (λ x h. (h.0, else_word x.cell ∙ h.1, h.2 ∙ sym (after_else x.cell ts (state_after x.cell (r.at x.cell) r.log) (apart k x.cell other h.1)))) on),
        (
          refl,
          refl,
          subst (λ (rs : List (Drawn Z)). All (λ e. e.stamp < found) rs) (sym l.drew) (subst (λ (a : ℕ). All (λ e. e.stamp < a) (drawn_by id r.log)) (sym r.counted) (own_stamps_below n r.at id r.log r.ran)),
          few_found s r,
        ),
      )

  -- a seat enters a cell that was free
  hits : (s : S) (r : Rule s) (id c : ℕ) (me : M) → get_elem? s.views id ≡ some me.0 → me.0.live ≡ true → c < n → get_or s.words (c + 1) 0 ≡ 0
      → (w : View Z) × (a : Act (Option T)) × Valid s.homes me.1 a × Rule (stepped s (c + 1) (me.0.number + 1) id me.1 w a)
      × ((x : T) × (carried_after me.1 a ≡ (c, Some x) ∷ me.1) × (w ≡ view_entered c (state x) me.0) × ((desc : Snapshot Desc) → me.0.desc ≡ Some desc → fits desc.value c x))
  hits s r id c me at live inside free =
      let v = me.0 in let l = r.alive id v at live in let home = r.home c inside free in let x = home.0 in let w = view_entered c (state x) v in
      let words' = set s.words (c + 1) (v.number + 1) in let homes' = set s.homes c none in
      let wide = r.wide in let deep = r.deep in let own : v.number ≡ id = l.numbered in
      let else_word : (d : ℕ) → d ≢ c + 1 → get_or words' d 0 ≡ get_or s.words d 0 = λ d other. get_or-set_other s.words (c + 1) d (v.number + 1) 0 other in
      let here_word : get_or words' (c + 1) 0 ≡ id + 1 = get_or-set_same s.words (c + 1) (v.number + 1) 0 (omega arith) ∙ ap (λ (j : ℕ). j + 1) own in
      let on = taken_on s r.at r.log r.log id v w at live (λ q h. h) (λ k h. refl) in
      let stays_held : (k : ℕ) (q : Stand Z) → IsHeldBy n r.at r.log s.words k q → IsHeldBy n r.at r.log words' k q = λ k q h. (
        h.0,
        else_word (q.cell + 1) (λ same. let a = subst (λ (j : ℕ). get_or s.words j 0 ≡ k + 1) same h.1 in omega arith) ∙ h.1,
        h.2,
      ) in
      let mine : Live r.at r.log words' (set s.views id w) id w = record {
        numbered = own;
        described = l.described;
        seated = l.seated;
        drew = l.drew;
        noted = l.noted;
        holding = each_snoc (IsHeldBy n r.at r.log words' id) v.holds (stand c (state x)) (each_weaken (IsHeldBy n r.at r.log s.words id) (IsHeldBy n r.at r.log words' id) (stays_held id) v.holds l.holding)
            (inside, here_word, home.2);
        taken = each_weaken (IsTakenIn n r.at r.log s.views) (IsTakenIn n r.at r.log (set s.views id w)) on v.pasts l.taken;
      } in (
        w,
        takes c (Some x),
        home.1,
        moves s r id v w words' homes' r.log at live live refl (length-set s.words (c + 1) (v.number + 1)) (length-set s.homes c none)
            (else_word 0 (λ e. omega arith) ∙ r.counted) r.ran r.known r.few
            (λ d within word. let other : d ≢ c = λ e. (let a = subst (λ (j : ℕ). get_or words' (j + 1) 0 ≡ 0) e word in omega arith) in
            let h = r.home d within (sym (else_word (d + 1) (λ e. other (omega arith))) ∙ word) in (h.0, set_else s.homes c d none other ∙ h.1, h.2, h.3))
            (λ d k within word. dite (ℕ_discrete d c)
            (λ same. let a : id + 1 ≡ k + 1 = sym here_word ∙ subst (λ (j : ℕ). get_or words' (j + 1) 0 ≡ k + 1) same word in let b : k ≡ id = omega arith in
            (w, subst (λ (j : ℕ). get_elem? (set s.views id w) j ≡ some w) (sym b) (set_here s.views id w (at_lt s.views id v at)), subst (λ (j : ℕ). stands_in j w.holds ≡ true) (sym same) (in_last c v.holds (state x))))
            (λ other. let h = r.held d k within (sym (else_word (d + 1) (λ e. other (omega arith))) ∙ word) in
            held_on s.views id k d v w at (in_more d v.holds (stand c (state x))) h.0 h.1 h.2))
            mine
            (λ k u other here. lives_on n r.at r.log r.log s.words words' s.views (set s.views id w) key.desc key.seats k u refl (λ q h. h) (stays_held k) on),
        (x, refl, refl, λ desc is. subst (λ (d : Snapshot Desc). fits d.value c x) (some_same key.desc desc (sym l.described ∙ is)) home.3),
      )

  -- a seat finds another in the cell
  misses : (s : S) (r : Rule s) (id c : ℕ) (me : M) → get_elem? s.views id ≡ some me.0 → me.0.live ≡ true → c < n → stands_in c me.0.holds ≡ false → get_or s.words (c + 1) 0 ≢ 0
      → let found = get_or s.words (c + 1) 0 in (w : View Z) × (a : Act (Option T)) × Valid s.homes me.1 a × Rule (stepped s (c + 1) found id me.1 w a)
      × ((carried_after me.1 a ≡ me.1) × (w ≡ view_met c (found - 1) me.0) × (found - 1 < me.0.seats) × (found - 1 ≢ me.0.number))
  misses s r id c me at live inside bare full =
      let v = me.0 in let l = r.alive id v at live in let found = get_or s.words (c + 1) 0 in let k = found - 1 in let w = view_met c k v in
      let word : found ≡ k + 1 = omega arith in
      let h = r.held c k inside word in let lt = at_lt s.views k h.0 h.1 in let within = r.within in let seated = l.seated in
      let mine : Live r.at r.log s.words s.views id w = record {
        numbered = l.numbered;
        described = l.described;
        seated = l.seated;
        drew = l.drew;
        noted = l.noted;
        holding = l.holding;
        taken = l.taken;
      } in (
        w,
        keeps,
        tt,
        stays s r (c + 1) id v w at live live refl refl mine,
        (
          refl,
          refl,
          omega arith,
          λ same. let there : get_elem? s.views k ≡ some v = subst (λ (j : ℕ). get_elem? s.views j ≡ some v) (sym (same ∙ l.numbered)) at in
              false≢true (sym bare ∙ subst (λ (u : View Z). stands_in c u.holds ≡ true) (same_at s.views k h.0 v h.1 there) h.2),
        ),
      )

  pub enters : (slots id c : ℕ) (me : M) → c < n → me.0.live ≡ true → stands_in c me.0.holds ≡ false
      → Allows Rule slots id me (c + 1) (λ m. either (eqb m 0) (me.0.number + 1) m) (entering state fits (step slots (c + 1) 0 (me.0.number + 1) none) me)
  enters slots id c me inside live bare = let e : c + 1 - 1 ≡ c = omega arith in
      subst (λ (d : ℕ). Allows Rule slots id me (c + 1) (λ m. either (eqb m 0) (me.0.number + 1) m) (entering_at state fits d me)) (sym e)
      (λ s r deep at lt. let found = get_or s.words (c + 1) 0 in
      let G : Bool → Type 0 = λ b. (w : View Z) × (a : Act (Option T)) × Valid s.homes me.1 a × Rule (stepped s (c + 1) (either b (me.0.number + 1) found) id me.1 w a)
      × MatchBool b
      ((x : T) × (carried_after me.1 a ≡ (c, Some x) ∷ me.1) × (w ≡ view_entered c (state x) me.0) × ((desc : Snapshot Desc) → me.0.desc ≡ Some desc → fits desc.value c x))
      ((carried_after me.1 a ≡ me.1) × (w ≡ view_met c (found - 1) me.0) × (found - 1 < me.0.seats) × (found - 1 ≢ me.0.number)) in
      dite (ℕ_discrete found 0) (λ z. subst G (sym (eq-eqb found 0 z)) (hits s r id c me at live inside z))
      (λ z. subst G (sym (ne_eqb found 0 z)) (misses s r id c me at live inside bare z)))

  -- a seat leaves a cell, with a value whose state is the settled one
  leaves_at : (slots id c : ℕ) (v : View Z) (x : T) (cs : List (ℕ × Option T)) → v.live ≡ true → stands_in c v.holds ≡ true
      → Each (λ q. q.cell ≡ c → q.state ≡ state x) v.holds → fits key.desc.value c x
      → Allows Rule slots id (v, (c, Some x) ∷ cs) (c + 1) (λ _. 0) (λ _. leaving_at c (v, (c, Some x) ∷ cs))
  leaves_at slots id c v x cs live holds settled fit s r deep at lt =
      let l = r.alive id v at live in let w = view_left c v in
      let found = find_in (λ q. IsHeldBy n r.at r.log s.words id q × (q.cell ≡ c → q.state ≡ state x)) c v.holds (each_both (IsHeldBy n r.at r.log s.words id) (λ q. q.cell ≡ c → q.state ≡ state x) v.holds l.holding settled) holds in
      let held_word : get_or s.words (c + 1) 0 ≡ id + 1 = subst (λ (j : ℕ). get_or s.words (j + 1) 0 ≡ id + 1) found.1 found.2.0.1 in
      let inside : c < n = subst (λ (j : ℕ). j < n) found.1 found.2.0.0 in
      let last : state x ≡ state_after c (r.at c) r.log = sym (found.2.1 found.1) ∙ subst (λ (j : ℕ). found.0.state ≡ state_after j (r.at j) r.log) found.1 found.2.0.2 in
      let words' = set s.words (c + 1) 0 in let homes' = set s.homes c (some (Some x)) in
      let wide = r.wide in let as_deep = r.deep in
      let else_word : (d : ℕ) → d ≢ c + 1 → get_or words' d 0 ≡ get_or s.words d 0 = λ d other. get_or-set_other s.words (c + 1) d 0 0 other in
      let here_word : get_or words' (c + 1) 0 ≡ 0 = get_or-set_same s.words (c + 1) 0 0 (omega arith) in
      let on = taken_on s r.at r.log r.log id v w at live (λ q h. h) (λ k h. refl) in
      let mine : Live r.at r.log words' (set s.views id w) id w = record {
        numbered = l.numbered;
        described = l.described;
        seated = l.seated;
        drew = l.drew;
        noted = l.noted;
        holding = each_weaken (λ q. IsHeldBy n r.at r.log s.words id q × (q.cell ≢ c)) (IsHeldBy n r.at r.log words' id)
            (λ q h. let other = h.1 in (h.0.0, else_word (q.cell + 1) (λ e. other (omega arith)) ∙ h.0.1, h.0.2)) (stands_without c v.holds) (each_without (IsHeldBy n r.at r.log s.words id) c v.holds l.holding);
        taken = each_weaken (IsTakenIn n r.at r.log s.views) (IsTakenIn n r.at r.log (set s.views id w)) on v.pasts l.taken;
      } in (
        w,
        gives,
        tt,
        moves s r id v w words' homes' r.log at live live refl (length-set s.words (c + 1) 0) (length-set s.homes c (some (Some x)))
            (else_word 0 (λ e. omega arith) ∙ r.counted) r.ran r.known r.few
            (λ d within word. dite (ℕ_discrete d c)
            (λ same. subst (Home r.at r.log homes') (sym same) (x, set_here s.homes c (some (Some x)) (omega arith), last, fit))
            (λ other. let h = r.home d within (sym (else_word (d + 1) (λ e. other (omega arith))) ∙ word) in (h.0, set_else s.homes c d (some (Some x)) other ∙ h.1, h.2, h.3)))
            (λ d k within word. let other : d ≢ c = λ e. (let a = subst (λ (j : ℕ). get_or words' (j + 1) 0 ≡ k + 1) e word in omega arith) in
            let h = r.held d k within (sym (else_word (d + 1) (λ e. other (omega arith))) ∙ word) in
            held_on s.views id k d v w at (in_without c d v.holds other) h.0 h.1 h.2)
            mine
            (λ k u other here. lives_on n r.at r.log r.log s.words words' s.views (set s.views id w) key.desc key.seats k u refl (λ q h. h)
            (λ q h. (h.0, else_word (q.cell + 1) (λ same. let a = subst (λ (j : ℕ). get_or s.words j 0 ≡ k + 1) same h.1 in other (omega arith)) ∙ h.1, h.2)) on),
        (refl, refl),
      )

  pub leaves : (slots id c : ℕ) (me : M) (x : T) → me.1 ≡ (c, Some x) ∷ rest me.1 → me.0.live ≡ true → stands_in c me.0.holds ≡ true
      → Each (λ q. q.cell ≡ c → q.state ≡ state x) me.0.holds → fits key.desc.value c x
      → Allows Rule slots id me (c + 1) (λ _. 0) (λ _. leaving (step slots (c + 1) 0 0 none) me 0)
  leaves slots id c me x first live holds settled fit = let e : c + 1 - 1 ≡ c = omega arith in
      subst (λ (d : ℕ). Allows Rule slots id me (c + 1) (λ _. 0) (λ _. leaving_at d me)) (sym e)
      (subst (λ (cs : List (ℕ × Option T)). Allows Rule slots id (me.0, cs) (c + 1) (λ _. 0) (λ _. leaving_at c (me.0, cs))) (sym first) (leaves_at slots id c me.0 x (rest me.1) live holds settled fit))

  -- the newest seat makes another
  pub splits : (id : ℕ) (v : View Z) → v.live ≡ true → v.newest ≡ true → v.number + 1 < key.seats → Splits Rule id v (has_made v) (new_view v)
  splits id v live young room s r at =
      let l = r.alive id v at live in let views = s.views in let left = has_made v in let right = new_view v in let views' = set views id left ++ right ∷ [] in
      let own : v.number ≡ id = l.numbered in let last : length views ≡ id + 1 = r.newest id v at live young in let made : v.number + 1 ≡ length views = (omega arith) in let len : length views' ≡ length views + 1 = length-append (set views id left) (right ∷ []) ∙ ap (λ (j : ℕ). j + 1) (length-set views id left) in
      let spent_more : (k : ℕ) → IsSpent views k → IsSpent views' k = λ k gone. let g = spent_on views id v left at live k gone in (g.0, at_longer (set views id left) (right ∷ []) k g.0 g.1, g.2) in
      let on : (k : ℕ) (u : View Z) → Live r.at r.log s.words views k u → Live r.at r.log s.words views' k u = λ k u. lives_on n r.at r.log r.log s.words s.words views views' key.desc key.seats k u refl (λ q h. h) (λ q h. h)
      (λ p t. (t.0, spent_more p.number t.1)) in
      let first : Live r.at r.log s.words views id left = record {
        numbered = l.numbered;
        described = l.described;
        seated = l.seated;
        drew = l.drew;
        noted = l.noted;
        holding = l.holding;
        taken = l.taken;
      } in
      let second : Live r.at r.log s.words views' (length views) right = record {
        numbered = made;
        described = l.described;
        seated = l.seated;
        drew = sym (drawn_none (length views) (length views) r.log r.known (omega arith));
        noted = tt;
        holding = tt;
        taken = tt;
      } in
      let within = l.seated in
      let old_len = length-set views id left in
      let each : (P : ℕ → View Z → Type 0) → P id left → ((k : ℕ) (u : View Z) → k ≢ id → get_elem? views k ≡ some u → P k u) → P (length views) right → (k : ℕ) (u : View Z) → get_elem? views' k ≡ some u → P k u
      = λ P here others new k u there. ⊎_elim
      (λ (t : get_elem? (set views id left) k ≡ some u). ⊎_elim (λ (q : (k ≡ id) × (left ≡ u)). subst (λ (p : ℕ × View Z). P p.0 p.1) (λ i. (sym q.0 i, q.1 i)) here)
      (λ (q : (k ≢ id) × (get_elem? views k ≡ some u)). others k u q.0 q.1) (at_set views id k left u t))
      (λ (t : (k ≡ length (set views id left)) × (right ≡ u)). subst (λ (p : ℕ × View Z). P p.0 p.1) (λ i. (sym (t.0 ∙ old_len) i, t.1 i)) new)
      (at_end (set views id left) right k u there) in
      record {
        log = r.log;
        at = r.at;
        starts = r.starts;
        wide = r.wide;
        deep = r.deep;
        counted = r.counted;
        ran = r.ran;
        known = each_weaken (λ e. e.by < length views) (λ e. e.by < length views') (λ e h. omega arith) r.log r.known;
        few = r.few;
        first = omega arith;
        within = omega arith;
        limit = r.limit;
        home = r.home;
        held = λ c k inside word. let h = r.held c k inside word in let g = held_on views id k c v left at (λ e. e) h.0 h.1 h.2 in (g.0, at_longer (set views id left) (right ∷ []) k g.0 g.1, g.2);
        alive = each (λ k u. u.live ≡ true → Live r.at r.log s.words views' k u) (λ h. on id left first) (λ k u other there h. on k u (r.alive k u there h)) (λ h. second);
        spent = each (λ k u. u.live ≡ false → u.holds ≡ []) (λ h. absurd (false≢true (sym h ∙ live))) (λ k u other. r.spent k u) (λ h. refl);
        newest = each (λ k u. u.live ≡ true → u.newest ≡ true → length views' ≡ k + 1) (λ h y. absurd (false≢true y)) (λ k u other there h y. let e = r.newest k u there h y in absurd (other (omega arith))) (λ h y. len);
      }

  -- a seat takes another in that holds no cell
  pub joins : (id other : ℕ) (v w : View Z) → v.live ≡ true → w.live ≡ true → w.holds ≡ [] → Joins Rule id v other w (taken_in v w) spent_view
  joins id other v w live live_w bare s r at apart there =
      let views = s.views in let both = taken_in v w in let views' = set (set views id both) other spent_view in
      let l = r.alive id v at live in
      let there_w : get_elem? views other ≡ some w = sym (set_else views id other both apart) ∙ there in
      let lw = r.alive other w there_w live_w in
      let len : length views' ≡ length views = length-set (set views id both) other spent_view ∙ length-set views id both in
      let gone : IsSpent views' other = (spent_view, set_here (set views id both) other spent_view (at_lt (set views id both) other w there), refl) in
      let spent_more : (k : ℕ) → IsSpent views k → IsSpent views' k = λ k g. spent_on (set views id both) other w spent_view there live_w k (spent_on views id v both at live k g) in
      let taken_more : (p : Past Z) → IsTakenIn n r.at r.log views p → IsTakenIn n r.at r.log views' p = λ p t. (t.0, spent_more p.number t.1) in
      let on : (k : ℕ) (u : View Z) → Live r.at r.log s.words views k u → Live r.at r.log s.words views' k u = λ k u. lives_on n r.at r.log r.log s.words s.words views views' key.desc key.seats k u refl (λ q h. h) (λ q h. h) taken_more in
      let newest : IsTakenIn n r.at r.log views' (past_of w) = ((lw.drew ∙ ap (λ (j : ℕ). drawn_by j r.log) (sym lw.numbered), lw.noted), subst (IsSpent views') (sym lw.numbered) gone) in
      let lb = on id v l in
      let mine : Live r.at r.log s.words views' id both = record {
        numbered = l.numbered;
        described = l.described;
        seated = l.seated;
        drew = l.drew;
        noted = l.noted;
        holding = l.holding;
        taken = (newest, lb.taken);
      } in
      let each : (P : ℕ → View Z → Type 0) → P id both → P other spent_view → ((k : ℕ) (u : View Z) → get_elem? views k ≡ some u → P k u) → (k : ℕ) (u : View Z) → get_elem? views' k ≡ some u → P k u
      = λ P here left others k u h. ⊎_elim (λ (q : (k ≡ other) × (spent_view ≡ u)). subst (λ (p : ℕ × View Z). P p.0 p.1) (λ i. (sym q.0 i, q.1 i)) left)
      (λ (q : (k ≢ other) × (get_elem? (set views id both) k ≡ some u)). ⊎_elim (λ (t : (k ≡ id) × (both ≡ u)). subst (λ (p : ℕ × View Z). P p.0 p.1) (λ i. (sym t.0 i, t.1 i)) here)
      (λ (t : (k ≢ id) × (get_elem? views k ≡ some u)). others k u t.1) (at_set views id k both u q.1))
      (at_set (set views id both) other k spent_view u h) in
      record {
        log = r.log;
        at = r.at;
        starts = r.starts;
        wide = r.wide;
        deep = r.deep;
        counted = r.counted;
        ran = r.ran;
        known = each_weaken (λ e. e.by < length views) (λ e. e.by < length views') (λ e h. omega arith) r.log r.known;
        few = r.few;
        first = let f = r.first in omega arith;
        within = let f = r.within in omega arith;
        limit = r.limit;
        home = r.home;
        held = λ c k inside word. let h = r.held c k inside word in let g = held_on views id k c v both at (λ e. e) h.0 h.1 h.2 in
            let elsewhere : k ≢ other = λ e. (let same : g.0 ≡ w = same_at (set views id both) other g.0 w (subst (λ (j : ℕ). get_elem? (set views id both) j ≡ some g.0) e g.1) there in
            false≢true (ap (stands_in c) (sym (ap (λ (x : View Z). x.holds) same ∙ bare)) ∙ g.2)) in
            (g.0, set_else (set views id both) other k spent_view elsewhere ∙ g.1, g.2);
        alive = each (λ k u. u.live ≡ true → Live r.at r.log s.words views' k u) (λ h. mine) (λ h. absurd (false≢true h)) (λ k u h there. on k u (r.alive k u h there));
        spent = each (λ k u. u.live ≡ false → u.holds ≡ []) (λ h. absurd (false≢true (sym h ∙ live))) (λ h. refl) r.spent;
        newest = each (λ k u. u.live ≡ true → u.newest ≡ true → length views' ≡ k + 1) (λ h y. len ∙ r.newest id v at live y) (λ h y. absurd (false≢true h)) (λ k u h there y. len ∙ r.newest k u h there y);
      }

  -- the board at the start
  pub opens : (words : List ℕ) (slots : List (Option T)) → words ≡ replicate (n + 1) 0 → slots ≡ map Some key.cells.value.items → 0 < n → 0 < key.seats → key.seats ≤ 64
      → ((c : ℕ) (x : T) → get_elem? key.cells.value.items c ≡ some x → fits key.desc.value c x) → Rule (opening words slots (first_view key.seats key.desc))
  opens words slots zeros filled some_cells some_seats few fit =
      let xs = key.cells.value.items in
      let zero_word : (k : ℕ) → k < n + 1 → get_or words k 0 ≡ 0 = λ k h. ap (λ (ws : List ℕ). get_or ws k 0) zeros ∙ get_or-replicate (n + 1) k 0 0 h in
      let d : T = nth xs 0 some_cells in
      let at : ℕ → Z = λ c. state (get_or xs c d) in
      let only : (P : ℕ → View Z → Type 0) → P 0 (first_view key.seats key.desc) → (k : ℕ) (u : View Z) → get_elem? (first_view key.seats key.desc ∷ []) k ≡ some u → P k u = λ P p k u h. only_one (first_view key.seats key.desc) P p k u h in
      record {
        log = [];
        at = at;
        starts = λ c x h. ap state (get_or_at xs c x d h);
        wide = ap length zeros ∙ length-replicate (n + 1) 0;
        deep = length-map slots some ∙ (ap length filled ∙ length-map xs Some);
        counted = zero_word 0 (omega arith);
        ran = tt;
        known = tt;
        few = λ k. omega arith;
        first = omega arith;
        within = omega arith;
        limit = few;
        home = λ c inside word. let x = nth xs c inside in let here : get_elem? xs c ≡ some x = nth_at xs c inside in
            (x, subst (λ (ss : List (Option T)). get_elem? (map some ss) c ≡ some (some (Some x))) (sym filled) (at_map some (map Some xs) c (Some x) (at_map Some xs c x here)), sym (ap state (get_or_at xs c x d here)), fit c x here);
        held = λ c k inside word. let z = zero_word (c + 1) (omega arith) in absurd (omega arith);
        alive = only (λ k u. u.live ≡ true → Live at [] words (first_view key.seats key.desc ∷ []) k u) (λ h. record {
          numbered = refl;
          described = refl;
          seated = refl;
          drew = refl;
          noted = tt;
          holding = tt;
          taken = tt;
        });
        spent = only (λ k u. u.live ≡ false → u.holds ≡ []) (λ h. refl);
        newest = only (λ k u. u.live ≡ true → u.newest ≡ true → 1 ≡ k + 1) (λ h y. omega arith);
      }
