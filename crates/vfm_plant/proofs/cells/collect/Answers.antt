-- The first cell is the coordinator's, and all are taken out.
use Rattle.std.proofs.Common.{◌≡◌, List, [], ◌∷◌, ◌++◌, length, refl, ap, sym, ◌∙◌, arith}
use Rattle.vfm_cells.specs.Cells.{Cell}
use Rattle.vfm_plant.proofs.CellLists.{front_fits, list_back}
use Rattle.vfm_plant.proofs.cells.collect.Goals as goal

pub into_lead-lead-requires : goal.into_lead-lead-requires
into_lead-lead-requires c =
    (front_fits c.args.desc.now 0 c.args.cells.items c.pop.new.self.items c.in-Some.part (sym c.reverse.ensures.items ∙ c.in-Some.ensures.items) c.requires.fits).0

pub take_devices-requires-clause-fits : goal.take_devices-requires-clause-fits
take_devices-requires-clause-fits c =
    (front_fits c.args.desc.now 0 c.args.cells.items c.pop.new.self.items c.in-Some.part (sym c.reverse.ensures.items ∙ c.in-Some.ensures.items) c.requires.fits).1

none : (xs : List Cell) → length xs ≡ 0 → xs ≡ []
none [] e = refl
none (x ∷ xs) e = absurd (omega arith)

pub returns-clause-cells : goal.returns-clause-cells
returns-clause-cells c =
    let rest = c.pop.new.self.items in
    let first = c.in-Some.ensures.len in
    let all = c.reverse.ensures.len in
    let count = c.requires.count in
    let devices = c.take_devices.ensures.left in
    let pages = c.take_pages.ensures.left in
    let ok = c.args.cells.ok.0 in
    let ok' = c.take_pages.new.cells.ok.0 in
    list_back c.args.cells.items rest c.take_devices.new.cells.items c.take_pages.new.cells.items c.into_lead-lead.result
    c.take_devices.new.devices.items c.take_pages.new.pages.items
    (sym c.reverse.ensures.items ∙ (c.in-Some.ensures.items ∙ ap (λ (x : Cell). rest ++ x ∷ []) c.into_lead-lead.ensures.lead))
    c.take_devices.ensures.all c.take_pages.ensures.all (none c.take_pages.new.cells.items (omega arith))
