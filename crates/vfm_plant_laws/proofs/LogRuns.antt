-- The log of a board over the cells of a machine is one run of it.
use Rattle.std.proofs.Common.{◌≡◌, ℕ, ◌-◌, ◌<◌, List, [], ◌∷◌, map, length, sym, subst, ◌∙◌, arith}
use Rattle.vfm_types.specs.declared.desc.Desc.{Desc}
use Rattle.vfm_parts.specs.Parts.{World}
use Rattle.vfm_turn.specs.declared.seen.Drawn.{Drawn}
use Rattle.vfm_turn.specs.declared.seen.Note.{Note}
use Rattle.vfm_turn.specs.Log.{Each, state_after, Ran, drawn_by, earlier, Stood, IsNote, IsPast}
use Rattle.vfm_turn.specs.History.{Closing, BeganAt, IsLogOf, past_number}
use Rattle.vfm_turn.proofs.Lists.{each_weaken, each_all}
use Rattle.vfm_turn.proofs.Runs.{all_each, each_seat, of_ticket, get_some}
use Rattle.vfm_cells.specs.Cells.{Cell, cell_at, cell_count, IsWhole}
use Rattle.vfm_cells.specs.WholeRun.{AreSteps, IsStep, IsWholeRun}
use Rattle.vfm_cells.proofs.WholeRuns.{before_is, whole_run, earlier_run}
use Rattle.vfm_cells.proofs.Whole.{after_whole}
use Rattle.vfm_plant_laws.specs.OneRun.{AreFound, AreAllSteps, AreCellsOf, IsRunOf, IsTrueNote, world_then}

-- each entry found what the world had
found : (D : Desc) (w : World) (log : List (Drawn Cell)) → IsWhole D w → Ran (cell_count D) (cell_at D w) log → AreSteps D log → AreFound D w log
found D w [] whole ran steps = tt
found D w (r ∷ log) whole ran steps =
    let before = whole_run D w log whole ran.2 steps.1 in (
      ran.0,
      before_is (cell_count D) (λ c. state_after c (cell_at D w c) log) (cell_at D (world_then D w log)) r.touches before.cells ran.1,
      found D w log whole ran.2 steps.1,
    )

-- each note is true of the world
note_true : (D : Desc) (w : World) (log : List (Drawn Cell)) → IsWhole D w → Ran (cell_count D) (cell_at D w) log → AreSteps D log
    → (note : Note Cell) → IsNote (cell_count D) (cell_at D w) log note → IsTrueNote D w log note
note_true D w log whole ran steps note is =
    let run = earlier_run D w log (length log - note.answer) whole ran steps in (
      is.0,
      each_weaken (Stood (cell_count D) (cell_at D w) log note.answer) (λ s. (s.cell < cell_count D) × (s.state ≡ cell_at D (world_then D w (earlier note.answer log)) s.cell))
          (λ s h. (h.0, h.1 ∙ sym (run.cells s.cell h.0))) note.stands is.1,
    )

-- a log of a board that was started with the cells of a world
module _ (D : Desc) (w : World) (closing : Closing Cell) (log : List (Drawn Cell)) (whole : IsWhole D w) (cells : AreCellsOf D w closing.started)
    (steps : AreAllSteps D closing.told) (is : IsLogOf closing log) where
  began : BeganAt closing.started (cell_at D w)
  began c z here = sym (cells.each c z here)

  ran : Ran (cell_count D) (cell_at D w) log
  ran = subst (λ (n : ℕ). Ran n (cell_at D w) log) cells.count (is.ran (cell_at D w) began)

  pasts : Each (IsPast (cell_count D) (cell_at D w) log) closing.told
  pasts = subst (λ (n : ℕ). Each (IsPast n (cell_at D w) log) closing.told) cells.count
      (all_each (IsPast (length closing.started) (cell_at D w) log) closing.told (is.told (cell_at D w) began))

  all_steps : AreSteps D log
  all_steps =
      each_seat (λ r. IsStep D r.entry r.touches) log (map past_number closing.told) (all_each _ log is.no_others)
      (of_ticket (λ r. IsStep D r.entry r.touches) (cell_count D) (cell_at D w) log closing.told pasts (all_each _ closing.told steps))

  run_is : IsWholeRun D w log
  run_is = whole_run D w log whole ran all_steps

  pub history_run : IsRunOf D w closing.told log
  history_run =
      record {
        run = run_is.run;
        found = found D w log whole ran all_steps;
        seats = each_all (λ p. p.records ≡ drawn_by p.number log) closing.told (each_weaken _ _ (λ p h. h.0) closing.told pasts);
        no_others = is.no_others;
        notes = each_all (λ p. Each (IsTrueNote D w log) p.notes) closing.told
            (each_weaken (IsPast (cell_count D) (cell_at D w) log) (λ p. Each (IsTrueNote D w log) p.notes)
            (λ p h. each_weaken (IsNote (cell_count D) (cell_at D w) log) (IsTrueNote D w log) (note_true D w log whole ran all_steps) p.notes h.1) closing.told pasts);
      }

  pub history_ended : AreCellsOf D (world_then D w log) closing.ended
  history_ended =
      record {
        count = is.cells ∙ cells.count;
        each = λ c cell here.
            let long = is.cells ∙ cells.count in
            let below : c < length closing.ended = get_some closing.ended c cell here in
            is.ended (cell_at D w) began c cell here ∙ sym (run_is.cells c (omega arith));
      }

pub world_whole : (D : Desc) (w : World) (log : List (Drawn Cell)) → IsWhole D w → IsWhole D (world_then D w log)
world_whole D w [] whole = whole
world_whole D w (r ∷ log) whole = after_whole D (world_then D w log) r.entry
