-- A log of steps on cells is one run of the whole world, entry by entry.
use Rattle.std.proofs.Common.{◌≡◌, ℕ, zero, suc, ◌<◌, ◌==◌, ◌||◌, false, if◌then◌else◌, List, [], ◌∷◌, map, drop, refl, ap, ap₂, sym, ◌∙◌, eqb-true}
use Rattle.vfm_types.specs.declared.desc.Desc.{Desc}
use Rattle.vfm_parts.specs.Parts.{World}
use Rattle.vfm_parts.specs.Steps.{after_on}
use Rattle.vfm_turn.specs.declared.seen.Touch.{Touch}
use Rattle.vfm_turn.specs.declared.seen.Drawn.{Drawn}
use Rattle.vfm_turn.specs.Seen.{after_in}
use Rattle.vfm_turn.specs.Log.{state_after, Begins, Ran}
use Rattle.vfm_turn.specs.Order.{has}
use Rattle.vfm_laws.proofs.Rising.{by_bool}
use Rattle.vfm_cells.specs.Cells.{Cell, cell_at, cell_count, IsWhole}
use Rattle.vfm_cells.specs.CellSteps.{step_of, IsStepOf}
use Rattle.vfm_cells.specs.WholeRun.{touch_cell, touch_before, touch_after, AreSteps, entries_of, world_after, IsWholeRun}
use Rattle.vfm_cells.proofs.Whole.{step_told, after_whole}

-- what the touched cells held before is what the world has in them
pub before_is : (n : ℕ) (at there : ℕ → Cell) (touches : List (Touch Cell)) → ((c : ℕ) → c < n → there c ≡ at c) → Begins n at touches
    → map touch_before touches ≡ map there (map touch_cell touches)
before_is n at there [] same begins = refl
before_is n at there (t ∷ touches) same begins =
    ap₂ (λ (x : Cell) (xs : List Cell). x ∷ xs) (begins.1 ∙ sym (same t.cell begins.0)) (before_is n at there touches same begins.2)

-- what a cell holds after a step, where the touched ones hold what the next world has in them and the others what they had
after_is : (touches : List (Touch Cell)) (next : ℕ → Cell) (c : ℕ) (z : Cell) → map touch_after touches ≡ map next (map touch_cell touches)
    → (has c (map touch_cell touches) ≡ false → next c ≡ z) → next c ≡ after_in c touches z
after_is [] next c z made kept = kept refl
after_is (t ∷ touches) next c z made kept =
    by_bool (t.cell == c)
    (λ b. (t.cell == c) ≡ b → ((b || has c (map touch_cell touches)) ≡ false → next c ≡ z) → next c ≡ (if b then t.after else after_in c touches z))
    (λ here e k. ap next (sym (eqb-true t.cell c e)) ∙ sym (head made))
    (λ away e k. after_is touches next c z (tail made) k) refl kept
  where
    head : (t.after ∷ map touch_after touches) ≡ (next t.cell ∷ map next (map touch_cell touches)) → t.after ≡ next t.cell
    head e = cc

    tail : (t.after ∷ map touch_after touches) ≡ (next t.cell ∷ map next (map touch_cell touches)) → map touch_after touches ≡ map next (map touch_cell touches)
    tail e = cc

pub whole_run : (D : Desc) (w : World) (log : List (Drawn Cell)) → IsWhole D w → Ran (cell_count D) (cell_at D w) log → AreSteps D log
    → IsWholeRun D w log
whole_run D w [] whole ran steps = record { run = tt; cells = λ c h. refl; whole = whole }
whole_run D w (r ∷ log) whole ran steps = one_more (whole_run D w log whole ran.2 steps.1)
  where
    one_more : IsWholeRun D w log → IsWholeRun D w (r ∷ log)
    one_more before = grown (step_told D (world_after D w (entries_of log)) r.entry (map touch_cell r.touches) (map touch_after r.touches) before.whole
        (ap (step_of D r.entry (map touch_cell r.touches))
        (sym (before_is (cell_count D) (λ c. state_after c (cell_at D w c) log) (cell_at D (world_after D w (entries_of log))) r.touches before.cells ran.1))
        ∙ steps.0))
      where
        grown : IsStepOf D (world_after D w (entries_of log)) r.entry (map touch_cell r.touches) (map touch_after r.touches) → IsWholeRun D w (r ∷ log)
        grown step =
            record {
              run = (step.named, step.allowed, before.run);
              cells = λ c h. after_is r.touches (cell_at D (after_on D (world_after D w (entries_of log)) r.entry)) c (state_after c (cell_at D w c) log) step.made
                  (λ apart. step.kept c h apart ∙ before.cells c h);
              whole = after_whole D (world_after D w (entries_of log)) r.entry;
            }

pub earlier_run : (D : Desc) (w : World) (log : List (Drawn Cell)) (k : ℕ) → IsWhole D w → Ran (cell_count D) (cell_at D w) log → AreSteps D log
    → IsWholeRun D w (drop k log)
earlier_run D w log zero whole ran steps = whole_run D w log whole ran steps
earlier_run D w [] (suc k) whole ran steps = whole_run D w [] whole ran steps
earlier_run D w (r ∷ log) (suc k) whole ran steps = earlier_run D w log k whole ran.2 steps.1
