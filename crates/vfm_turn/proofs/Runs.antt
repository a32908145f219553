-- The log of a closed board is one run.
use Rattle.std.proofs.Common.{◌≡◌, ◌≢◌, ℕ, zero, suc, ◌-◌, ◌<◌, ◌≤◌, true, List, [], ◌∷◌, map, length, drop, get_or, set, sym, refl, ap, ◌∙◌, subst, eq-eqb, ne_eqb, arith, Some, length-set}
use mathlib.Core.Logic.{dite}
use native.Mathlib.Decide.{ℕ_discrete}
use Rattle.std.specs.List.{All, slice_get}
use Rattle.std.proofs.lemmas.Bool.{false≢true}
use Rattle.vfm_types.specs.declared.entry.Entry.{Entry}
use Rattle.vfm_turn.specs.declared.seen.Touch.{Touch}
use Rattle.vfm_turn.specs.declared.seen.Drawn.{Drawn}
use Rattle.vfm_turn.specs.declared.seen.Note.{Note}
use Rattle.vfm_turn.specs.declared.seen.Past.{Past}
use Rattle.vfm_turn.specs.Seen.{after_in}
use Rattle.vfm_turn.specs.Log.{Each, state_after, Begins, Ran, drawn_by, earlier, Stood, IsNote, IsPast}
use Rattle.vfm_turn.specs.Order.{has}
use Rattle.vfm_turn.specs.History.{Closing, past_number, BeganAt, IsLogOf, IsHistory}
use Rattle.vfm_turn.specs.Run.{Finds, after_all, IsRun, AreAllowed, Shows, IsOneRun, IsRunToNotes}
use Rattle.vfm_turn.proofs.Lists.{each_weaken, each_all}
use Rattle.vfm_turn.proofs.Logs.{drawn_here, drawn_else}

module _ {X : Type 0} where
  pub all_each : (P : X → Type 0) (xs : List X) → All P xs → Each P xs
  all_each P [] a = tt
  all_each P (x ∷ xs) a = (a 0 x (omega arith), all_each P xs (λ k d h. a (suc k) d (omega arith)))

  pub each_drop : (P : X → Type 0) (k : ℕ) (xs : List X) → Each P xs → Each P (drop k xs)
  each_drop P zero xs e = e
  each_drop P (suc k) [] e = tt
  each_drop P (suc k) (x ∷ xs) e = each_drop P k xs e.1

  pub get_some : (xs : List X) (k : ℕ) (x : X) → slice_get xs k ≡ Some x → k < length xs
  get_some [] k x e = cc
  get_some (y ∷ ys) zero x e = omega arith
  get_some (y ∷ ys) (suc k) x e = let h = get_some ys k x e in omega arith

  pub get_there : (xs : List X) (k : ℕ) → k < length xs → (x : X) × (slice_get xs k ≡ Some x)
  get_there [] k h = absurd (omega arith)
  get_there (y ∷ ys) zero h = (y, refl)
  get_there (y ∷ ys) (suc k) h = get_there ys k (omega arith)

  get_set_here : (xs : List X) (k : ℕ) (x : X) → k < length xs → slice_get (set xs k x) k ≡ Some x
  get_set_here [] k x h = absurd (omega arith)
  get_set_here (y ∷ ys) zero x h = refl
  get_set_here (y ∷ ys) (suc k) x h = get_set_here ys k x (omega arith)

  get_set_else : (xs : List X) (k j : ℕ) (x : X) → j ≢ k → slice_get (set xs k x) j ≡ slice_get xs j
  get_set_else [] k j x n = refl
  get_set_else (y ∷ ys) zero zero x n = absurd (n refl)
  get_set_else (y ∷ ys) zero (suc j) x n = refl
  get_set_else (y ∷ ys) (suc k) zero x n = refl
  get_set_else (y ∷ ys) (suc k) (suc j) x n = get_set_else ys k j x (λ e. n (ap suc e))

  -- two lists with the same elements at the same places are one
  pub same_lists : (xs ys : List X) → length xs ≡ length ys → ((k : ℕ) (x : X) → slice_get xs k ≡ Some x → slice_get ys k ≡ Some x) → xs ≡ ys
  same_lists [] [] e f = refl
  same_lists [] (y ∷ ys) e f = absurd (omega arith)
  same_lists (x ∷ xs) [] e f = absurd (omega arith)
  same_lists (x ∷ xs) (y ∷ ys) e f = let head : Some y ≡ Some x = f 0 x refl in let rest : xs ≡ ys = same_lists xs ys (omega arith) (λ k z h. f (suc k) z h) in cc

  -- a list gives each cell its state, but for a default past its end
  pub began : (zs : List X) (d : X) → BeganAt zs (λ c. get_or zs c d)
  began [] d c z e = cc
  began (y ∷ ys) d zero z e = cc
  began (y ∷ ys) d (suc c) z e = began ys d c z e

module _ {Z : Type 0} where
  pub after_length : (ts : List (Touch Z)) (zs : List Z) → length (after_all ts zs) ≡ length zs
  after_length [] zs = refl
  after_length (t ∷ ts) zs = length-set (after_all ts zs) t.cell t.after ∙ after_length ts zs

  after_at : (ts : List (Touch Z)) (zs : List Z) (c : ℕ) (z : Z) → slice_get zs c ≡ Some z → slice_get (after_all ts zs) c ≡ Some (after_in c ts z)
  after_at [] zs c z e = e
  after_at (t ∷ ts) zs c z e = dite (ℕ_discrete t.cell c)
      (λ same. rw (eq-eqb t.cell c same) (let lt = get_some zs c z e in let len = after_length ts zs in
      subst (λ (j : ℕ). slice_get (set (after_all ts zs) j t.after) c ≡ Some t.after) (sym same) (get_set_here (after_all ts zs) c t.after (omega arith))))
      (λ other. rw (ne_eqb t.cell c other) (get_set_else (after_all ts zs) t.cell c t.after (λ q. other (sym q)) ∙ after_at ts zs c z e))

  -- the states of all cells after the whole log
  pub states_after : List Z → List (Drawn Z) → List Z
  states_after started [] = started
  states_after started (r ∷ log) = after_all r.touches (states_after started log)

  pub states_at : (started : List Z) (at : ℕ → Z) (log : List (Drawn Z)) → BeganAt started at → (c : ℕ) → c < length started → slice_get (states_after started log) c ≡ Some (state_after c (at c) log)
  unfolding states_after
  states_at started at [] b c h = let g = get_there started c h in g.1 ∙ ap (λ (z : Z). Some z) (sym (b c g.0 g.1))
  states_at started at (r ∷ log) b c h = after_at r.touches (states_after started log) c (state_after c (at c) log) (states_at started at log b c h)

  pub states_length : (started : List Z) (log : List (Drawn Z)) → length (states_after started log) ≡ length started
  unfolding states_after
  states_length started [] = refl
  states_length started (r ∷ log) = after_length r.touches (states_after started log) ∙ states_length started log

  finds : (zs : List Z) (n : ℕ) (f : ℕ → Z) (ts : List (Touch Z)) → ((c : ℕ) → c < n → slice_get zs c ≡ Some (f c)) → Begins n f ts → Finds zs ts
  finds zs n f [] at b = tt
  finds zs n f (t ∷ ts) at b = (at t.cell b.0 ∙ ap (λ (z : Z). Some z) (sym b.1), finds zs n f ts at b.2)

  pub runs : (allows : Entry → List (Touch Z) → Type 0) (started : List Z) (at : ℕ → Z) (log : List (Drawn Z)) → BeganAt started at → Ran (length started) at log → Each (λ r. allows r.entry r.touches) log
      → IsRun allows started log (states_after started log)
  unfolding states_after
  runs allows started at [] b ran each = refl
  runs allows started at (r ∷ log) b ran each = (
    states_after started log,
    runs allows started at log b ran.2 each.1,
    ran.0,
    each.0,
    finds (states_after started log) (length started) (λ c. state_after c (at c) log) r.touches (states_at started at log b) ran.1,
    refl,
  )

  -- what holds of what each seat drew holds of the whole log
  pub each_seat : (P : Drawn Z → Type 0) (log : List (Drawn Z)) (ns : List ℕ) → Each (λ r. has r.by ns ≡ true) log → ((k : ℕ) → has k ns ≡ true → Each P (drawn_by k log)) → Each P log
  each_seat P [] ns among f = tt
  each_seat P (r ∷ log) ns among f = (
    (subst (Each P) (drawn_here r.by r log refl) (f r.by among.0)).0,
    each_seat P log ns among.1 (λ k h. dite (ℕ_discrete r.by k) (λ e. (subst (Each P) (drawn_here k r log e) (f k h)).1) (λ n. subst (Each P) (drawn_else k r log n) (f k h))),
  )

  -- what one of the tickets drew
  pub of_ticket : (P : Drawn Z → Type 0) (n : ℕ) (at : ℕ → Z) (log : List (Drawn Z)) (told : List (Past Z)) → Each (IsPast n at log) told → Each (λ p. Each P p.records) told
      → (k : ℕ) → has k (map past_number told) ≡ true → Each P (drawn_by k log)
  of_ticket P n at log [] pasts right k h = absurd (false≢true h)
  of_ticket P n at log (p ∷ told) pasts right k h = dite (ℕ_discrete p.number k)
      (λ e. subst (Each P) (pasts.0.0 ∙ ap (λ (j : ℕ). drawn_by j log) e) right.0)
      (λ n'. of_ticket P n at log told pasts.1 right.1 k (rw (ne_eqb p.number k n') at h))

  allowed : (allows : Entry → List (Touch Z) → Type 0) (closing : Closing Z) (log : List (Drawn Z)) (at : ℕ → Z) → BeganAt closing.started at → IsLogOf closing log → AreAllowed allows closing → Each (λ r. allows r.entry r.touches) log
  allowed allows closing log at b is right = each_seat (λ r. allows r.entry r.touches) log (map past_number closing.told) (all_each (λ r. has r.by (map past_number closing.told) ≡ true) log is.no_others)
      (of_ticket (λ r. allows r.entry r.touches) (length closing.started) at log closing.told (all_each (IsPast (length closing.started) at log) closing.told (is.told at b))
      (each_weaken (λ p. All (λ r. allows r.entry r.touches) p.records) (λ p. Each (λ r. allows r.entry r.touches) p.records) (λ p a. all_each (λ r. allows r.entry r.touches) p.records a) closing.told
      (all_each (λ p. All (λ r. allows r.entry r.touches) p.records) closing.told right)))

  -- the log of a closed board is one run
  run_of : (allows : Entry → List (Touch Z) → Type 0) (closing : Closing Z) (log : List (Drawn Z)) (at : ℕ → Z) → BeganAt closing.started at → IsLogOf closing log → AreAllowed allows closing → IsRun allows closing.started log closing.ended
  run_of allows closing log at b is right = let n = length closing.started in
      let same : closing.ended ≡ states_after closing.started log = same_lists closing.ended (states_after closing.started log) (is.cells ∙ sym (states_length closing.started log))
      (λ c z e. let lt = get_some closing.ended c z e in let cells = is.cells in states_at closing.started at log b c (omega arith) ∙ ap (λ (y : Z). Some y) (sym (is.ended at b c z e))) in
      subst (IsRun allows closing.started log) (sym same) (runs allows closing.started at log b (is.ran at b) (allowed allows closing log at b is right))

  ran_drop : (n : ℕ) (at : ℕ → Z) (k : ℕ) (log : List (Drawn Z)) → Ran n at log → Ran n at (drop k log)
  ran_drop n at zero log ran = ran
  ran_drop n at (suc k) [] ran = tt
  ran_drop n at (suc k) (r ∷ log) ran = ran_drop n at k log ran.2

  -- what was drawn up to a note is one run, to the noted states
  run_to : (allows : Entry → List (Touch Z) → Type 0) (closing : Closing Z) (log : List (Drawn Z)) (at : ℕ → Z) → BeganAt closing.started at → IsLogOf closing log → AreAllowed allows closing
      → (note : Note Z) → IsNote (length closing.started) at log note → (note.answer ≤ length log) × ((zs : List Z) × IsRun allows closing.started (earlier note.answer log) zs × Shows zs note)
  run_to allows closing log at b is right note n = let started = closing.started in let k = length log - note.answer in let zs = states_after started (earlier note.answer log) in (
    n.0,
    (
      zs,
      runs allows started at (earlier note.answer log) b (ran_drop (length started) at k log (is.ran at b)) (each_drop (λ r. allows r.entry r.touches) k log (allowed allows closing log at b is right)),
      each_all (λ s. slice_get zs s.cell ≡ Some s.state) note.stands
          (each_weaken (Stood (length started) at log note.answer) (λ s. slice_get zs s.cell ≡ Some s.state) (λ s h. states_at started at (earlier note.answer log) b s.cell h.0 ∙ ap (λ (z : Z). Some z) (sym h.1)) note.stands n.1),
    ),
  )

  at_of : (zs : List Z) → 0 < length zs → (at : ℕ → Z) × BeganAt zs at
  at_of [] h = absurd (omega arith)
  at_of (z ∷ zs) h = ((λ c. get_or (z ∷ zs) c z), began (z ∷ zs) z)

  pub one_run_of : (allows : Entry → List (Touch Z) → Type 0) (closing : Closing Z) → IsHistory closing → AreAllowed allows closing → IsOneRun allows closing
  one_run_of allows closing h right = let b = at_of closing.started h.1.some_cells in (h.0, h.1, run_of allows closing h.0 b.0 b.1 h.1 right)

  pub runs_to_notes : (allows : Entry → List (Touch Z) → Type 0) (closing : Closing Z) (log : List (Drawn Z)) → IsLogOf closing log → AreAllowed allows closing → IsRunToNotes allows closing log
  runs_to_notes allows closing log is right = let b = at_of closing.started is.some_cells in let n = length closing.started in
      let Good : Note Z → Type 0 = λ note. (note.answer ≤ length log) × ((zs : List Z) × IsRun allows closing.started (earlier note.answer log) zs × Shows zs note) in
      each_all (λ p. All Good p.notes) closing.told (each_weaken (IsPast n b.0 log) (λ p. All Good p.notes)
      (λ p h. each_all Good p.notes (each_weaken (IsNote n b.0 log) Good (run_to allows closing log b.0 b.1 is right) p.notes h.1)) closing.told (all_each (IsPast n b.0 log) closing.told (is.told b.0 b.1)))
