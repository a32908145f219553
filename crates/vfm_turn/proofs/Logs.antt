-- The log of drawn entries as it grows.
use Rattle.std.proofs.Common.{◌≡◌, ◌≢◌, ℕ, zero, suc, ◌+◌, ◌-◌, ◌*◌, ◌<◌, ◌≤◌, List, [], ◌∷◌, length, drop, sym, refl, ap, ◌∙◌, subst, eq-eqb, ne_eqb, arith}
use mathlib.Core.Logic.{dite}
use native.Mathlib.Decide.{ℕ_discrete}
use Rattle.std.specs.List.{All}
use Rattle.vfm_turn.specs.declared.seen.Touch.{Touch}
use Rattle.vfm_turn.specs.declared.seen.Drawn.{Drawn}
use Rattle.vfm_turn.specs.declared.seen.Note.{Note}
use Rattle.vfm_turn.specs.Seen.{after_in}
use Rattle.vfm_turn.specs.Log.{Each, state_after, Begins, Ran, drawn_by, earlier, Stood, IsNote}
use Rattle.vfm_turn.proofs.Lists.{each_weaken, each_all}

module _ {Z : Type 0} where
  pub drawn_here : (k : ℕ) (r : Drawn Z) (log : List (Drawn Z)) → r.by ≡ k → drawn_by k (r ∷ log) ≡ r ∷ drawn_by k log
  drawn_here k r log e = rw (eq-eqb r.by k e) refl

  pub drawn_else : (k : ℕ) (r : Drawn Z) (log : List (Drawn Z)) → r.by ≢ k → drawn_by k (r ∷ log) ≡ drawn_by k log
  drawn_else k r log n = rw (ne_eqb r.by k n) refl

  -- the seats from m on have drawn nothing
  pub drawn_none : (m k : ℕ) (log : List (Drawn Z)) → Each (λ r. r.by < m) log → m ≤ k → drawn_by k log ≡ []
  drawn_none m k [] e h = refl
  drawn_none m k (r ∷ log) e h = let a = e.0 in drawn_else k r log (λ same. omega arith) ∙ drawn_none m k log e.1 h

  -- how many entries the seats below m drew
  abbrev total : ℕ → List (Drawn Z) → ℕ
  total zero log = 0
  total (suc m) log = length (drawn_by m log) + total m log

  total_else : (m : ℕ) (r : Drawn Z) (log : List (Drawn Z)) → m ≤ r.by → total m (r ∷ log) ≡ total m log
  total_else zero r log h = refl
  total_else (suc m) r log h = let a = ap length (drawn_else m r log (λ e. omega arith)) in let b = total_else m r log (omega arith) in omega arith

  total_more : (m : ℕ) (r : Drawn Z) (log : List (Drawn Z)) → r.by < m → total m (r ∷ log) ≡ suc (total m log)
  total_more zero r log h = absurd (omega arith)
  total_more (suc m) r log h = dite (ℕ_discrete r.by m)
      (λ e. let a = ap length (drawn_here m r log e) in let b = total_else m r log (omega arith) in omega arith)
      (λ n. let a = ap length (drawn_else m r log n) in let b = total_more m r log (omega arith) in omega arith)

  total_all : (m : ℕ) (log : List (Drawn Z)) → Each (λ r. r.by < m) log → total m log ≡ length log
  total_all m [] e = total_empty m
    where
      total_empty : (m : ℕ) → total m [] ≡ 0
      total_empty zero = refl
      total_empty (suc m) = let a = total_empty m in omega arith
  total_all m (r ∷ log) e = total_more m r log e.0 ∙ ap suc (total_all m log e.1)

  total_bound : (m b : ℕ) (log : List (Drawn Z)) → ((k : ℕ) → length (drawn_by k log) ≤ b) → total m log ≤ m * b
  total_bound zero b log h = omega arith
  total_bound (suc m) b log h = let a = h m in let r = total_bound m b log h in omega arith

  -- so many seats, each with so few entries, have drawn no more than this
  pub length_bound : (m b : ℕ) (log : List (Drawn Z)) → Each (λ r. r.by < m) log → ((k : ℕ) → length (drawn_by k log) ≤ b) → length log ≤ m * b
  length_bound m b log known few = let a = total_all m log known in let h = total_bound m b log few in omega arith

  pub earlier_more : (count : ℕ) (r : Drawn Z) (log : List (Drawn Z)) → count ≤ length log → earlier count (r ∷ log) ≡ earlier count log
  earlier_more count r log h = let e : suc (length log) - count ≡ suc (length log - count) = omega arith in ap (λ k. drop k (r ∷ log)) e

  pub earlier_all : (log : List (Drawn Z)) → earlier (length log) log ≡ log
  earlier_all log = let e : length log - length log ≡ 0 = omega arith in ap (λ k. drop k log) e

  pub note_more : (n : ℕ) (at : ℕ → Z) (r : Drawn Z) (log : List (Drawn Z)) (x : Note Z) → IsNote n at log x → IsNote n at (r ∷ log) x
  note_more n at r log x h = let le = h.0 in (
    omega arith,
    each_weaken (Stood n at log x.answer) (Stood n at (r ∷ log) x.answer) (λ s st. (st.0, st.1 ∙ ap (state_after s.cell (at s.cell)) (sym (earlier_more x.answer r log le)))) x.stands h.1,
  )

  -- an entry leaves a cell alone that it doesn't touch
  pub after_else : (c : ℕ) (ts : List (Touch Z)) (z : Z) → Each (λ t. t.cell ≢ c) ts → after_in c ts z ≡ z
  after_else c [] z e = refl
  after_else c (t ∷ ts) z e = rw (ne_eqb t.cell c e.0) (after_else c ts z e.1)

  pub begins : (n : ℕ) (at : ℕ → Z) (ts : List (Touch Z)) → Each (λ t. (t.cell < n) × (t.before ≡ at t.cell)) ts → Begins n at ts
  begins n at [] e = tt
  begins n at (t ∷ ts) e = (e.0.0, e.0.1, begins n at ts e.1)

  stamps_below : (n : ℕ) (at : ℕ → Z) (k m : ℕ) (log : List (Drawn Z)) → length log ≤ m → Ran n at log → Each (λ r. r.stamp < m) (drawn_by k log)
  stamps_below n at k m [] h ran = tt
  stamps_below n at k m (r ∷ log) h ran = let more = stamps_below n at k m log (omega arith) ran.2 in let s = ran.0 in dite (ℕ_discrete r.by k)
      (λ e. subst (Each (λ q. q.stamp < m)) (sym (drawn_here k r log e)) (omega arith, more))
      (λ ne. subst (Each (λ q. q.stamp < m)) (sym (drawn_else k r log ne)) more)

  pub own_stamps_below : (n : ℕ) (at : ℕ → Z) (k : ℕ) (log : List (Drawn Z)) → Ran n at log → All (λ r. r.stamp < length log) (drawn_by k log)
  own_stamps_below n at k log ran = each_all (λ r. r.stamp < length log) (drawn_by k log) (stamps_below n at k (length log) log (omega arith) ran)

  pub answers_below : (n : ℕ) (at : ℕ → Z) (log : List (Drawn Z)) (notes : List (Note Z)) → Each (IsNote n at log) notes → All (λ x. x.answer ≤ length log) notes
  answers_below n at log notes e = each_all (λ x. x.answer ≤ length log) notes (each_weaken (IsNote n at log) (λ x. x.answer ≤ length log) (λ x h. h.0) notes e)
