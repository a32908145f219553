-- One more is moved.
use Rattle.std.proofs.Common.{ℕ, List, [], ◌∷◌, ◌++◌, map, reverse, refl, ap, sym, ◌∙◌, append_assoc, arith}
use Rattle.std.proofs.lemmas.List.{reverse-append, reverse-reverse}
use Rattle.vfm_cells.specs.Cells.{Cell, page_cell}
use Rattle.vfm_plant.proofs.cells.move_pages.Goals as goal

pub loop-page-init : goal.loop-page-init
loop-page-init c =
    record {
      all = ap (λ (xs : List (List ℕ)). c.args.cells.now.items ++ map page_cell xs) (ap reverse c.reverse.ensures.items ∙ reverse-reverse c.args.pages.now.items);
      fits = (let len = c.reverse.ensures.len in let room = c.requires in omega arith);
      capacity = refl;
      room = c.reverse.ensures.capacity;
    }

pub loop-page-preserved : goal.loop-page-preserved
loop-page-preserved c =
    let i = c.loop-page.invariant in
    let rest = c.pop.new.self.items in
    let cells = c.loop-page.cells.items in
    record {
      all =
          ap (λ (xs : List Cell). xs ++ map page_cell (reverse rest)) (c.push_reserved.ensures.items ∙ ap (λ (x : Cell). cells ++ x ∷ []) c.of_page.ensures)
          ∙ (append_assoc cells (page_cell c.in-Some.page ∷ []) (map page_cell (reverse rest))
          ∙ (ap (λ (xs : List (List ℕ)). cells ++ map page_cell xs) (sym (reverse-append rest (c.in-Some.page ∷ [])) ∙ ap reverse (sym c.in-Some.ensures.items)) ∙ i.all));
      fits = (let len = c.in-Some.ensures.len in let more = c.push_reserved.ensures.len in let cap = c.push_reserved.ensures.capacity in let before = i.fits in omega arith);
      capacity = c.push_reserved.ensures.capacity ∙ i.capacity;
      room = c.in-Some.ensures.capacity ∙ i.room;
    }
