-- What a closed plant's seats did is one run of its core.
use Rattle.std.proofs.Common.{◌≡◌, ℕ, ◌+◌, ◌≤◌, true, List, [], ◌∷◌, ◌++◌, map, reverse, length, refl, ap, ap₂, sym, subst, ◌∙◌, arith, All}
use Rattle.std.proofs.lemmas.List.{length-reverse, map-id, reverse-reverse}
use Rattle.std.proofs.lemmas.List.Elements.{All-map, All-weaker}
use Rattle.vfm_types.specs.declared.desc.Desc.{Desc}
use Rattle.vfm_types.specs.declared.entry.Entry.{Entry}
use Rattle.vfm_parts.specs.Parts.{World}
use Rattle.vfm_journal.specs.Log.{Log}
use Rattle.vfm_turn.specs.declared.seen.Drawn.{Drawn}
use Rattle.vfm_turn.specs.declared.seen.Past.{Past}
use Rattle.vfm_turn.specs.Log.{Each, drawn_by}
use Rattle.vfm_turn.specs.Order.{has}
use Rattle.vfm_turn.specs.History.{IsLogOf, past_number}
use Rattle.vfm_turn.specs.Words.{past_told, number_of, started_of}
use Rattle.vfm_turn.proofs.Runs.{all_each}
use Rattle.vfm_cells.specs.Cells.{Cell}
use Rattle.vfm_cells.specs.WholeRun.{AreSteps, entries_of}
use Rattle.vfm_core.specs.CoreState.{IsKept}
use Rattle.vfm_plant_laws.specs.OneRun.{AreAllSteps, AreCellsOf, AreFound, IsRunOf, world_then}
use Rattle.vfm_plant_laws.proofs.LogRuns.{history_run, history_ended}
use Rattle.vfm_plant_laws.proofs.KeptRuns.{run_kept, run_room}
use Rattle.vfm_plant.specs.declared.plant.Plant.{Plant}
use Rattle.vfm_plant.specs.declared.seat.Made.{Made}
use Rattle.vfm_plant.specs.declared.seat.PlantSeat.{PlantSeat}
use Rattle.vfm_plant.specs.Closed.{AreAtPlaces, items_of}
use Rattle.vfm_plant.specs.Seat.{IsSeatOf, made_of, seat_number, told_of}
use Rattle.vfm_plant.specs.Started.{IsPlant, base_of, started_core}
use Rattle.vfm_plant.proofs.CellLists.{whole_parts}
use Rattle.vfm_plant.proofs.Closings.{AreCounted, lists_of, log_found}

pub told_same : (seats : List PlantSeat) → map past_told (map (λ (s : PlantSeat). s.ticket) seats) ≡ map told_of seats
told_same [] = refl
told_same (s ∷ seats) = ap (λ (ps : List (Past Cell)). told_of s ∷ ps) (told_same seats)

pub numbers_same : (seats : List PlantSeat) → map number_of (map (λ (s : PlantSeat). s.ticket) seats) ≡ map seat_number seats
numbers_same [] = refl
numbers_same (s ∷ seats) = ap (λ (ns : List ℕ). seat_number s ∷ ns) (numbers_same seats)

abbrev pub made_items : PlantSeat → List Made
made_items s = s.made.items

pub items_same : (seats : List PlantSeat) → map items_of (map (λ (s : PlantSeat). s.made) seats) ≡ map made_items seats
items_same [] = refl
items_same (s ∷ seats) = ap (λ (ms : List (List Made)). made_items s ∷ ms) (items_same seats)

counted : (D : Desc) (w : World) (log : List (Drawn Cell)) → AreFound D w log → AreCounted log
counted D w [] found = tt
counted D w (r ∷ log) found = (found.0, counted D w log found.2)

lists_are : (plant : Plant) (log : List (Drawn Cell)) (seats : List PlantSeat) → Each (λ s. IsSeatOf plant s) seats
    → Each (λ (p : Past Cell). p.records ≡ drawn_by p.number log) (map told_of seats)
    → lists_of (base_of plant) log (map past_number (map told_of seats)) ≡ map made_items seats
lists_are plant log [] mine drew = refl
lists_are plant log (s ∷ seats) mine drew =
    ap₂ (λ (ms : List Made) (all : List (List Made)). ms ∷ all)
    (ap (λ (rs : List (Drawn Cell)). reverse (map (made_of (base_of plant)) rs)) (sym drew.0)
    ∙ (ap (λ (ms : List Made). reverse ms) mine.0.made ∙ reverse-reverse s.made.items))
    (lists_are plant log seats mine.1 drew.1)

module _ (plant : Plant) (seats : List PlantSeat) (cells : List Cell) (told : List (Past Cell)) (same : told ≡ map told_of seats)
    (is : IsPlant plant) (mine : All (λ s. IsSeatOf plant s) seats) (log : List (Drawn Cell))
    (log_is : IsLogOf (record { started = started_of (λ (part : Cell). part) plant.board; told = told; ended = map (λ (part : Cell). part) cells }) log) where
  abbrev pub D : Desc
  D = plant.desc

  abbrev pub w : World
  w = (started_core plant).world

  kept : IsKept D plant.journal.entries plant.journal.room w
  kept =
      subst (λ (j : Log). IsKept D j.entries j.room w) is.wrote
      (subst (λ (E : Desc). IsKept E plant.began.value.journal.entries plant.began.value.journal.room w) is.described is.kept)

  steps : AreAllSteps D told
  steps = subst (AreAllSteps D) (sym same) (All-map (λ (p : Past Cell). AreSteps D p.records) told_of seats (All-weaker (λ s. IsSeatOf plant s) (λ s. AreSteps D (told_of s).records) (λ s h. h.steps) seats mine))

  first_run : IsRunOf D w told log
  first_run = history_run D w _ log (whole_parts D w kept.fit) is.began steps log_is

  pub closed_run : IsRunOf D w (map told_of seats) log
  closed_run = subst (λ (ps : List (Past Cell)). IsRunOf D w ps log) same first_run

  pub closed_cells : AreCellsOf D (world_then D w log) cells
  closed_cells = subst (AreCellsOf D (world_then D w log)) (map-id cells) (history_ended D w _ log (whole_parts D w kept.fit) is.began steps log_is)

  pub closed_kept : IsKept D (plant.journal.entries ++ reverse (entries_of log)) plant.journal.room (world_then D w log)
  closed_kept = run_kept D plant.journal.entries (entries_of log) plant.journal.room w kept closed_run.run

  pub closed_room : length plant.journal.entries + length (reverse (entries_of log)) ≤ plant.journal.room
  closed_room =
      let room = run_room D plant.journal.entries (entries_of log) plant.journal.room w kept closed_run.run in
      let len = length-reverse (entries_of log) in
      omega arith

  pub closed_places : AreAtPlaces (length plant.journal.entries) (map made_items seats) (reverse (entries_of log))
  closed_places =
      subst (λ (n : ℕ). AreAtPlaces n (map made_items seats) (reverse (entries_of log))) (ap (λ (j : Log). length j.entries) is.wrote)
      (subst (λ (ls : List (List Made)). AreAtPlaces (base_of plant) ls (reverse (entries_of log)))
      (lists_are plant log seats (all_each (λ s. IsSeatOf plant s) seats mine) (all_each (λ (p : Past Cell). p.records ≡ drawn_by p.number log) (map told_of seats) closed_run.seats))
      (log_found (base_of plant) (map past_number (map told_of seats)) log (counted D w log closed_run.found)
      (all_each (λ r. has r.by (map past_number (map told_of seats)) ≡ true) log closed_run.no_others)))

  pub closed_core : (entries : List Entry) (world : World) → entries ≡ plant.journal.entries ++ reverse (entries_of log) → world_then D w log ≡ world
      → record { desc = D; entries = entries; world = world } ≡ record (started_core plant) {
        entries = (started_core plant).entries ++ reverse (entries_of log);
        world = world_then D w log;
      }
  closed_core entries world written after =
      ap (λ (E : Desc). record { desc = E; entries = entries; world = world }) (sym is.described)
      ∙ (ap (λ (es : List Entry). record { desc = plant.began.value.desc; entries = es; world = world })
      (written ∙ ap (λ (j : Log). j.entries ++ reverse (entries_of log)) (sym is.wrote))
      ∙ ap (λ (v : World). record { desc = plant.began.value.desc; entries = plant.began.value.journal.entries ++ reverse (entries_of log); world = v }) (sym after))
