-- The journal has what the seats made, and the cells are those of the world after it.
use Rattle.std.proofs.Common.{◌≡◌, ℕ, ◌<◌, true, List, [], ◌∷◌, map, reverse, length, ap, sym, subst, ◌∙◌, arith, All}
use Rattle.std.proofs.lemmas.Bool.{false≢true}
use Rattle.std.proofs.lemmas.List.Elements.{All-map, All-weaker}
use Rattle.vfm_types.specs.declared.desc.Desc.{Desc}
use Rattle.vfm_types.specs.declared.entry.Entry.{Entry}
use Rattle.vfm_parts.specs.Parts.{World}
use Rattle.vfm_turn.specs.Order.{has}
use Rattle.vfm_turn.specs.Words.{IsTicketOf, desc_of, holds_of, past_told}
use Rattle.vfm_cells.specs.WholeRun.{entries_of}
use Rattle.vfm_core.specs.CoreState.{IsKept}
use Rattle.vfm_plant_laws.specs.OneRun.{world_then}
use Rattle.vfm_plant.specs.declared.seat.Made.{Made}
use Rattle.vfm_plant.specs.declared.seat.PlantSeat.{PlantSeat}
use Rattle.vfm_plant.specs.Closed.{AreAtPlaces, items_of}
use Rattle.vfm_plant.specs.Rooms.{AreFittingFrom}
use Rattle.vfm_plant.specs.Started.{started_core}
use Rattle.vfm_plant.specs.Seat.{IsSeatOf, seat_number}
use Rattle.vfm_plant.proofs.CellLists.{fitting_all, cells_list, collected, whole_parts}
use Rattle.vfm_plant.proofs.Closes.{told_same, numbers_same, items_same, closed_run, closed_cells, closed_kept, closed_core, closed_room, closed_places}
use Rattle.vfm_plant.proofs.plant.Plant.close.Goals as goal

some_there : (seats : List PlantSeat) → has 0 (map seat_number seats) ≡ true → 0 < length seats
some_there [] e = absurd (false≢true e)
some_there (s ∷ seats) e = omega arith

pub gather_seats-tickets-requires-clause-some : goal.gather_seats-tickets-requires-clause-some
gather_seats-tickets-requires-clause-some c =
    let there = some_there c.args.seats.items (c.requires.all 0 c.args.self.board.seats.0) in
    let ok = c.args.seats.ok.0 in
    omega arith

pub close-cells-requires-clause-tickets : goal.close-cells-requires-clause-tickets
close-cells-requires-clause-tickets c =
    subst (All (λ t. IsTicketOf c.args.self.board t × (holds_of t ≡ []))) (sym c.gather_seats-tickets.ensures.tickets)
    (All-map (λ t. IsTicketOf c.args.self.board t × (holds_of t ≡ [])) (λ (s : PlantSeat). s.ticket) c.args.seats.items
    (All-weaker (λ s. IsSeatOf c.args.self s) (λ s. IsTicketOf c.args.self.board s.ticket × (holds_of s.ticket ≡ [])) (λ s h. (h.ticket, h.rest)) c.args.seats.items c.requires.seats))

pub close-cells-requires-clause-all : goal.close-cells-requires-clause-all
close-cells-requires-clause-all c = λ k low.
    ap (has k) (ap (map _) c.gather_seats-tickets.ensures.tickets ∙ numbers_same c.args.seats.items) ∙ c.requires.all k low

pub write_down-requires : goal.write_down-requires
write_down-requires c =
    let seats = c.args.seats.items in
    let history = c.close-cells.ensures.history in
    let same = ap (map past_told) c.gather_seats-tickets.ensures.tickets ∙ told_same seats in
    let items = ap (map items_of) c.gather_seats-tickets.ensures.lists ∙ items_same seats in
    record {
      told = (
        reverse (entries_of history.0),
        subst (λ (ls : List (List Made)). AreAtPlaces (length c.args.self.journal.entries) ls (reverse (entries_of history.0))) (sym items)
            (closed_places c.args.self seats c.close-cells.result.items _ same c.requires.plant c.requires.seats history.0 history.1),
        closed_room c.args.self seats c.close-cells.result.items _ same c.requires.plant c.requires.seats history.0 history.1,
      );
    }

pub collect-lead-requires-clause-fits : goal.collect-lead-requires-clause-fits
collect-lead-requires-clause-fits c =
    let xs = c.close-cells.result.items in
    subst (λ (D : Desc). AreFittingFrom D 0 xs) c.requires.plant.same (fitting_all (desc_of c.args.self.board) xs c.close-cells.ensures.fits)

pub join-requires : goal.join-requires
join-requires c =
    let plant = c.args.self in
    let seats = c.args.seats.items in
    let cells = c.close-cells.result.items in
    let history = c.close-cells.ensures.history in
    let log = history.0 in
    let same = ap (map past_told) c.gather_seats-tickets.ensures.tickets ∙ told_same seats in
    let items = ap (map items_of) c.gather_seats-tickets.ensures.lists ∙ items_same seats in
    let kept = closed_kept plant seats cells _ same c.requires.plant c.requires.seats log history.1 in
    let v = world_then plant.desc (started_core plant).world log in
    let are = cells_list plant.desc v (whole_parts plant.desc v kept.fit) cells (closed_cells plant seats cells _ same c.requires.plant c.requires.seats log history.1) in
    let len = c.collect-lead.ensures.devices in
    let ok = c.collect-lead.new.devices.ok.0 in
    let world = collected plant.desc v kept.fit cells c.collect-lead.result c.collect-lead.new.devices.items c.collect-lead.new.pages.items are c.collect-lead.ensures.cells (omega arith) in
    let written = c.write_down.ensures.written (reverse (entries_of log))
    (subst (λ (ls : List (List Made)). AreAtPlaces (length plant.journal.entries) ls (reverse (entries_of log))) (sym items)
    (closed_places plant seats cells _ same c.requires.plant c.requires.seats log history.1)) in
    subst (λ (x : World). IsKept plant.desc c.write_down.new.journal.entries c.write_down.new.journal.room x) world
    (subst (λ (n : ℕ). IsKept plant.desc c.write_down.new.journal.entries n v) (sym c.write_down.ensures.room)
    (subst (λ (es : List Entry). IsKept plant.desc es plant.journal.room v) (sym written) kept))

pub returns : goal.returns
returns c =
    let plant = c.args.self in
    let seats = c.args.seats.items in
    let cells = c.close-cells.result.items in
    let history = c.close-cells.ensures.history in
    let log = history.0 in
    let same = ap (map past_told) c.gather_seats-tickets.ensures.tickets ∙ told_same seats in
    let items = ap (map items_of) c.gather_seats-tickets.ensures.lists ∙ items_same seats in
    let kept = closed_kept plant seats cells _ same c.requires.plant c.requires.seats log history.1 in
    let v = world_then plant.desc (started_core plant).world log in
    let are = cells_list plant.desc v (whole_parts plant.desc v kept.fit) cells (closed_cells plant seats cells _ same c.requires.plant c.requires.seats log history.1) in
    let len = c.collect-lead.ensures.devices in
    let ok = c.collect-lead.new.devices.ok.0 in
    let world = collected plant.desc v kept.fit cells c.collect-lead.result c.collect-lead.new.devices.items c.collect-lead.new.pages.items are c.collect-lead.ensures.cells (omega arith) in
    let written = c.write_down.ensures.written (reverse (entries_of log))
    (subst (λ (ls : List (List Made)). AreAtPlaces (length plant.journal.entries) ls (reverse (entries_of log))) (sym items)
    (closed_places plant seats cells _ same c.requires.plant c.requires.seats log history.1)) in
    record {
      log = log;
      run = closed_run plant seats cells _ same c.requires.plant c.requires.seats log history.1;
      core_is = c.join.ensures ∙ closed_core plant seats cells _ same c.requires.plant c.requires.seats log history.1 _ _ written world;
    }
