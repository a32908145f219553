-- What the calls of the board cite: facts of a seat and of its ticket, after a step.
use Rattle.std.proofs.Common.{◌≡◌, ℕ, ◌+◌, ◌-◌, ◌<◌, ◌≤◌, true, List, [], ◌∷◌, ◌++◌, map, length, take, drop, set, length-append, length-drop, suc, ne_eqb, sym, ap, ◌∙◌, subst, eq-eqb, arith, Option, Some, None}
use mathlib.Core.Logic.{dite}
use native.Mathlib.Decide.{ℕ_discrete}
use Rattle.std.proofs.lemmas.Bool.{false≢true}
use Rattle.std.proofs.lemmas.List.{length-map}
use Rattle.std.specs.List.{remove}
use Rattle.std.specs.declared.snapshot.Snapshot.{Snapshot}
use Rattle.atomic_table.specs.Table.{Me, rest, turned}
use Rattle.vfm_types.specs.declared.desc.Desc.{Desc}
use Rattle.vfm_types.specs.declared.entry.Entry.{Entry}
use Rattle.vfm_turn.specs.declared.seen.Stand.{Stand}
use Rattle.vfm_turn.specs.declared.seen.Touch.{Touch}
use Rattle.vfm_turn.specs.declared.seen.Held.{Held}
use Rattle.vfm_turn.specs.declared.seen.View.{View}
use Rattle.vfm_turn.specs.Seen.{Seen, Hold, hold, stand, drawn, note, entered, shown, drew, noted, left}
use Rattle.vfm_turn.specs.Order.{has, are_once, held_cell, stand_cell, empty_slot}
use Rattle.vfm_turn.specs.Place.{place_in}
use Rattle.vfm_turn.specs.Steps.{entering_at, view_entered, view_drew, view_noted, view_left}
use Rattle.vfm_turn.specs.Words.{holds_from, seen_from}
use Rattle.vfm_turn.proofs.Tickets.{turned_back, map_remove, holds_end, holds_settled, holds_after, holds_shown, holds_left}

module _ {T : Type 0} where
  -- the value in the slot that the seat took last
  abbrev slot_of : List (ℕ × Option T) → Option T
  slot_of [] = None
  slot_of (x ∷ xs) = x.1

  pub same_slot : (c : ℕ) (a b : Option T) (xs ys zs : List (ℕ × Option T)) → xs ≡ (c, a) ∷ ys → xs ≡ (c, b) ∷ zs → a ≡ b
  same_slot c a b xs ys zs e f = sym (ap slot_of e) ∙ ap slot_of f

  pub first_slot : (c : ℕ) (a : Option T) (xs ys : List (ℕ × Option T)) → xs ≡ (c, a) ∷ ys → xs ≡ (c, a) ∷ rest xs
  first_slot c a xs ys e = e ∙ ap (λ (zs : List (ℕ × Option T)). (c, a) ∷ zs) (sym (ap rest e))

module _ {T Z : Type 0} where
  -- the seat once its new slot is emptied and turned behind the others
  pub took_slot : (c : ℕ) (x : Option T) (w : View Z) (m m1 m2 m3 : Me (Option T) (View Z)) → m1.1 ≡ (c, x) ∷ m.1 → m1.0 ≡ w → m2 ≡ (m1.0, (c, None) ∷ rest m1.1) → m3 ≡ (m2.0, turned m2.1)
      → (m3.0 ≡ w) × (m3.1 ≡ m.1 ++ (c, None) ∷ [])
  took_slot c x w m m1 m2 m3 slots view emptied turns = (
    ap (λ (y : Me (Option T) (View Z)). y.0) turns ∙ (ap (λ (y : Me (Option T) (View Z)). y.0) emptied ∙ view),
    ap (λ (y : Me (Option T) (View Z)). y.1) turns ∙ (ap (λ (y : Me (Option T) (View Z)). turned y.1) emptied ∙ ap (λ (ys : List (ℕ × Option T)). rest ys ++ (c, None) ∷ []) slots),
  )

module _ {T Z : Type 0} (state : T → Z) (fits : Desc → ℕ → T → Type 0) where
  -- the cell was free
  pub was_free : (c found : ℕ) (me after : Me (Option T) (View Z)) → found ≡ 0 → entering_at state fits (c + 1 - 1) me found after
      → (x : T) × (after.1 ≡ (c, Some x) ∷ me.1) × (after.0 ≡ view_entered c (state x) me.0) × ((desc : Snapshot Desc) → me.0.desc ≡ Some desc → fits desc.value c x)
  was_free c found me after none_there told =
      let e : c + 1 - 1 ≡ c = omega arith in
      let at : entering_at state fits c me found after = subst (λ (d : ℕ). entering_at state fits d me found after) e told in
      rw (eq-eqb found 0 none_there) at at

module _ {T Z : Type 0} (state : T → Z) where
  abbrev From : View Z → List (Held T) → Seen Z
  From v hs = seen_from state v hs

  from_same : (v v' : View Z) (hs hs' : List (Held T)) → v' ≡ v → hs' ≡ hs → From v' hs' ≡ From v hs
  from_same v v' hs hs' a b = ap (λ (w : View Z). From w hs') a ∙ ap (From v) b

  pub seen_entered : (c : ℕ) (z : Z) (v v' : View Z) (hs hs' : List (Held T)) (h : Held T) → v' ≡ view_entered c z v → hs' ≡ hs ++ h ∷ [] → state h.shown.value ≡ z → map stand_cell v.holds ≡ map held_cell hs
      → From v' hs' ≡ entered c z (From v hs)
  seen_entered c z v v' hs hs' h view order is e = from_same (view_entered c z v) v' (hs ++ h ∷ []) hs' view order
      ∙ ap (λ (zs : List (Hold Z)). record (From v hs) { holds = zs }) (holds_end state v.holds hs (stand c z) h e ∙ ap (λ (x : Z). holds_from state v.holds hs ++ hold c z x ∷ []) is)

  pub seen_shown : (c : ℕ) (z : Z) (v : View Z) (hs hs' : List (Held T)) (h : Held T) → hs' ≡ set hs (place_in c (map held_cell hs)) h → h.cell ≡ c → state h.shown.value ≡ z → map stand_cell v.holds ≡ map held_cell hs
      → are_once (map held_cell hs) ≡ true → has c (map held_cell hs) ≡ true → From v hs' ≡ shown c z (From v hs)
  seen_shown c z v hs hs' h order is same e once there = ap (From v) order
      ∙ (ap (λ (zs : List (Hold Z)). record (From v hs) { holds = zs }) (holds_shown state c h v.holds hs is e once there) ∙ ap (λ (x : Z). shown c x (From v hs)) same)

  pub seen_drew : (stamp by : ℕ) (entry : Entry) (ts : List (Touch Z)) (v v' : View Z) (hs : List (Held T)) → v' ≡ view_drew stamp entry ts v → v.number ≡ by → From v' hs ≡ drew (drawn by stamp entry ts) (From v hs)
  seen_drew stamp by entry ts v v' hs view is = ap (λ (w : View Z). From w hs) view
      ∙ (ap (λ (zs : List (Hold Z)). record (From v hs) { holds = zs; records = drawn v.number stamp entry ts ∷ v.records }) (holds_after state ts v.holds hs)
      ∙ ap (λ (k : ℕ). drew (drawn k stamp entry ts) (From v hs)) is)

  pub seen_noted : (answer : ℕ) (v v' : View Z) (hs : List (Held T)) → v' ≡ view_noted answer v → map stand_cell v.holds ≡ map held_cell hs → From v' hs ≡ noted answer (From v hs)
  seen_noted answer v v' hs view e = ap (λ (w : View Z). From w hs) view ∙ ap (λ (ss : List (Stand Z)). record (From v hs) { notes = note answer ss ∷ v.notes }) (sym (holds_settled state v.holds hs e))

  pub seen_left : (c : ℕ) (v v' : View Z) (hs hs' : List (Held T)) → v' ≡ view_left c v → hs' ≡ remove hs (place_in c (map held_cell hs)) → map stand_cell v.holds ≡ map held_cell hs
      → are_once (map held_cell hs) ≡ true → has c (map held_cell hs) ≡ true → From v' hs' ≡ left c (From v hs)
  seen_left c v v' hs hs' view order e once there = from_same (view_left c v) v' (remove hs (place_in c (map held_cell hs))) hs' view order
      ∙ ap (λ (zs : List (Hold Z)). record (From v hs) { holds = zs }) (holds_left state c v.holds hs e once there)

-- what doesn't tell two held values of one cell apart stays as it is where the cell is shown anew
pub same_set : {T Y : Type 0} (f : Held T → Y) (c : ℕ) (h : Held T) (hs : List (Held T)) → ((x : Held T) → x.cell ≡ c → f h ≡ f x) → has c (map held_cell hs) ≡ true
    → map f (set hs (place_in c (map held_cell hs)) h) ≡ map f hs
same_set f c h [] same there = absurd (false≢true there)
same_set f c h (x ∷ hs) same there = dite (ℕ_discrete x.cell c)
    (λ e. rw (eq-eqb x.cell c e) (ap (λ (y : _). y ∷ map f hs) (same x e)))
    (λ n. rw (ne_eqb x.cell c n) (ap (λ ys. f x ∷ ys) (same_set f c h hs same (rw (ne_eqb x.cell c n) at there))))

module _ {T : Type 0} where
  slot_at : (c : ℕ) (hs : List (Held T)) → has c (map held_cell hs) ≡ true
      → drop (place_in c (map held_cell hs)) (map empty_slot hs) ≡ (c, None) ∷ drop (suc (place_in c (map held_cell hs))) (map empty_slot hs)
  slot_at c [] there = absurd (false≢true there)
  slot_at c (x ∷ hs) there = dite (ℕ_discrete x.cell c)
      (λ e. rw (eq-eqb x.cell c e) (ap (λ (j : ℕ). (j, None) ∷ map empty_slot hs) e))
      (λ n. rw (ne_eqb x.cell c n) (slot_at c hs (rw (ne_eqb x.cell c n) at there)))

  -- the slots but this one, once it is brought to the front and given home
  abbrev back : ℕ → List (ℕ × Option T) → List (ℕ × Option T)
  back i ms = drop (suc i) ms ++ take i ms

module _ {T Z : Type 0} where
  pub brought : (c i : ℕ) (hs : List (Held T)) (m m1 : Me (Option T) (View Z)) → m.1 ≡ map empty_slot hs → has c (map held_cell hs) ≡ true → i ≡ place_in c (map held_cell hs)
      → m1 ≡ (m.0, drop i m.1 ++ take i m.1) → m1.1 ≡ (c, None) ∷ back i m.1
  brought c i hs m m1 out there place turns =
      let at : drop i m.1 ≡ (c, None) ∷ drop (suc i) m.1 = subst (λ (p : ℕ × List (ℕ × Option T)). drop p.0 p.1 ≡ (c, None) ∷ drop (suc p.0) p.1) (λ k. (sym place k, sym out k)) (slot_at c hs there) in
      ap (λ (y : Me (Option T) (View Z)). y.1) turns ∙ ap (λ ys. ys ++ take i m.1) at

  pub gave_home : (c i : ℕ) (x : T) (m m1 m2 m3 : Me (Option T) (View Z)) → m1.1 ≡ (c, None) ∷ back i m.1 → m2 ≡ (m1.0, (c, Some x) ∷ rest m1.1) → m3.1 ≡ rest m2.1 → m3.1 ≡ back i m.1
  gave_home c i x m m1 m2 m3 slots puts gives = gives ∙ (ap (λ (y : Me (Option T) (View Z)). rest y.1) puts ∙ ap rest slots)

  pub others_left : (i len : ℕ) (hs : List (Held T)) (m m3 : Me (Option T) (View Z)) → m.1 ≡ map empty_slot hs → len ≡ length hs → i < len → m3.1 ≡ back i m.1 → (len - i - 1 ≡ length (drop (suc i) m.1)) × (len - i - 1 ≤ length m3.1)
  others_left i len hs m m3 out count lt slots =
      let a = ap length out ∙ length-map hs empty_slot in let b = length-drop (suc i) m.1 in let d = ap length slots ∙ length-append (drop (suc i) m.1) (take i m.1) in
      (omega arith, omega arith)

  pub back_in_order : (i k : ℕ) (hs : List (Held T)) (m m3 m4 : Me (Option T) (View Z)) → m.1 ≡ map empty_slot hs → k ≡ length (drop (suc i) m.1) → m3.1 ≡ back i m.1 → m4 ≡ (m3.0, drop k m3.1 ++ take k m3.1)
      → m4.1 ≡ map empty_slot (remove hs i)
  back_in_order i k hs m m3 m4 out count slots turns = ap (λ (y : Me (Option T) (View Z)). y.1) turns
      ∙ (ap (λ ys. drop k ys ++ take k ys) slots ∙ (turned_back m.1 i k count ∙ (ap (λ ys. remove ys i) out ∙ sym (map_remove empty_slot hs i))))

  pub left_view : (c : ℕ) (x : List (ℕ × Option T)) (ys : List (ℕ × Option T)) (zs : List (ℕ × Option T)) (m m1 m2 m3 m4 : Me (Option T) (View Z)) → m1 ≡ (m.0, x) → m2 ≡ (m1.0, ys) → m3.0 ≡ view_left (c + 1 - 1) m2.0 → m4 ≡ (m3.0, zs)
      → m4.0 ≡ view_left c m.0
  left_view c x ys zs m m1 m2 m3 m4 a b d e = let j : c + 1 - 1 ≡ c = omega arith in let F = λ (y : Me (Option T) (View Z)). y.0 in
      ap F e ∙ (d ∙ (ap (λ (k : ℕ). view_left k m2.0) j ∙ ap (view_left c) (ap F b ∙ ap F a)))
