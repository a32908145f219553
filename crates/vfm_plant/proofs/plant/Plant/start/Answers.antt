-- The cells are those of the core, and come back where the board isn't started.
use Rattle.std.proofs.Common.{◌≡◌, ℕ, List, length, ap, sym, subst, ◌∙◌, arith}
use Rattle.std.proofs.lemmas.List.{length-map, map-id}
use Rattle.std.proofs.lemmas.List.FromFn.{length-range_with_len}
use Rattle.vfm_parts.specs.Parts.{World}
use Rattle.vfm_turn.specs.Words.{number_of, started_of}
use Rattle.vfm_cells.specs.Cells.{Cell}
use Rattle.vfm_core.specs.declared.split.Split.{Split}
use Rattle.vfm_core.specs.CoreState.{IsKept, world_with}
use Rattle.vfm_core.specs.Split.{IsKeptApart, state_apart}
use Rattle.vfm_plant_laws.specs.OneRun.{AreCellsOf}
use Rattle.vfm_plant.proofs.CellLists.{collected, fitting_all, spread_cells, spread_fit}
use Rattle.vfm_plant.proofs.plant.Plant.start.Goals as goal

pub start-requires-clause-fits : goal.start-requires-clause-fits
start-requires-clause-fits c =
    let s = c.split-split.result in
    spread_fit s.desc (world_with s.lead s.devices.items s.pages.items) c.split-split.ensures.kept.fit c.spread.new.cells.items c.spread.ensures.cells

pub deal-seats-requires-clause-enough : goal.deal-seats-requires-clause-enough
deal-seats-requires-clause-enough c =
    let tickets = c.in-Ok-start.tickets.items in
    let numbers = sym (length-map tickets number_of) ∙ (ap (λ (ns : List ℕ). length ns) c.in-Ok-start.ensures.numbers ∙ length-range_with_len 0 c.args.seats) in
    let each = c.in-Ok.ensures.each.0 in
    let a = c.in-Ok-start.tickets.ok.0 in
    let b = c.in-Ok.rooms.each.ok.0 in
    omega arith

pub deal-seats-requires-clause-seats : goal.deal-seats-requires-clause-seats
deal-seats-requires-clause-seats c =
    let tickets = c.in-Ok-start.tickets.items in
    let numbers = sym (length-map tickets number_of) ∙ (ap (λ (ns : List ℕ). length ns) c.in-Ok-start.ensures.numbers ∙ length-range_with_len 0 c.args.seats) in
    let a = c.in-Ok-start.tickets.ok.0 in
    let room = c.in-Ok.ensures.seats.1 in
    (c.in-Ok.ensures.seats.0, omega arith)

pub collect-lead-requires-clause-count : goal.collect-lead-requires-clause-count
collect-lead-requires-clause-count c =
    let s = c.split-split.result in
    ap (λ (xs : List Cell). length xs) c.in-Err-start.ensures.refused
    ∙ (spread_cells s.desc (world_with s.lead s.devices.items s.pages.items) c.split-split.ensures.kept.fit c.spread.new.cells.items c.spread.ensures.cells).count

pub collect-lead-requires-clause-fits : goal.collect-lead-requires-clause-fits
collect-lead-requires-clause-fits c =
    let s = c.split-split.result in
    fitting_all s.desc c.in-Err-start.cells.items
    (spread_fit s.desc (world_with s.lead s.devices.items s.pages.items) c.split-split.ensures.kept.fit c.in-Err-start.cells.items (c.in-Err-start.ensures.refused ∙ c.spread.ensures.cells))

pub join-requires-in-Err-start : goal.join-requires-in-Err-start
join-requires-in-Err-start c =
    let s = c.split-split.result in
    let len = c.collect-lead.ensures.devices in
    let ok = c.collect-lead.new.devices.ok.0 in
    subst (IsKept s.desc s.journal.entries s.journal.room)
    (collected s.desc (world_with s.lead s.devices.items s.pages.items) c.split-split.ensures.kept.fit c.in-Err-start.cells.items c.collect-lead.result
    c.collect-lead.new.devices.items c.collect-lead.new.pages.items (c.in-Err-start.ensures.refused ∙ c.spread.ensures.cells) c.collect-lead.ensures.cells (omega arith))
    c.split-split.ensures.kept

pub returns-in-Err-start-clause-refused : goal.returns-in-Err-start-clause-refused
returns-in-Err-start-clause-refused c =
    let s = c.split-split.result in
    let len = c.collect-lead.ensures.devices in
    let ok = c.collect-lead.new.devices.ok.0 in
    c.join-in-Err-start.ensures
    ∙ (ap (λ (w : World). record { desc = s.desc; entries = s.journal.entries; world = w })
    (sym (collected s.desc (world_with s.lead s.devices.items s.pages.items) c.split-split.ensures.kept.fit c.in-Err-start.cells.items c.collect-lead.result
    c.collect-lead.new.devices.items c.collect-lead.new.pages.items (c.in-Err-start.ensures.refused ∙ c.spread.ensures.cells) c.collect-lead.ensures.cells (omega arith)))
    ∙ c.split-split.ensures.state)

pub returns-in-Ok-start-clause-plant : goal.returns-in-Ok-start-clause-plant
returns-in-Ok-start-clause-plant c =
    let s = c.split-split.result in
    let fit = c.split-split.ensures.kept.fit in
    let began = c.of-began.ensures in
    let w = world_with s.lead s.devices.items s.pages.items in
    let are = spread_cells s.desc w fit c.spread.new.cells.items c.spread.ensures.cells in
    let states : started_of (λ (part : Cell). part) c.in-Ok-start.board ≡ c.spread.new.cells.items = c.in-Ok-start.ensures.started ∙ map-id c.spread.new.cells.items in
    record {
      same = c.in-Ok-start.ensures.desc;
      cells = c.in-Ok-start.ensures.sizes.0 ∙ are.count;
      valid = fit.valid;
      few = (let len = c.len.ensures in let less = c.if-len.false in omega arith);
      described = ap (λ (x : Split). x.desc) began;
      wrote = ap (λ (x : Split). x.journal) began;
      kept = subst IsKeptApart (sym began) c.split-split.ensures.kept;
      began = subst (λ (x : Split). AreCellsOf s.desc (state_apart x).world (started_of (λ (part : Cell). part) c.in-Ok-start.board)) (sym began)
          (subst (AreCellsOf s.desc w) (sym states) are);
      devices = (
        c.spread.ensures.devices.0,
        (let cap = c.spread.ensures.devices.1 in let ok = s.devices.ok.0 in let small = s.devices.ok.1 in let len = fit.devs in omega arith),
      );
      pages = (
        c.spread.ensures.pages.0,
        (let cap = c.spread.ensures.pages.1 in let ok = s.pages.ok.0 in let small = s.pages.ok.1 in let len = fit.pages in omega arith),
      );
    }
