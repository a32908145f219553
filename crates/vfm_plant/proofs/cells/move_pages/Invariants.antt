-- Those that are left, last first, follow those that were moved.
use Rattle.std.proofs.Common.{◌≡◌, ◌+◌, ◌≤◌, ◌++◌, map, reverse, vec_len, vec_capacity}
use Rattle.vfm_cells.specs.Cells.{page_cell}
use Rattle.vfm_plant.proofs.cells.move_pages.Given as goal

abbrev pub invariant-loop-page : goal.invariant-loop-page
invariant-loop-page l = record {
  all : l.cells.items ++ map page_cell (reverse l.pages.items) ≡ l.fn.cells.items ++ map page_cell l.fn.pages.items;
  fits : vec_len l.cells + vec_len l.pages ≤ vec_capacity l.cells;
  capacity : vec_capacity l.cells ≡ vec_capacity l.fn.cells;
  room : vec_capacity l.pages ≡ vec_capacity l.fn.pages;
}

abbrev pub decreases-loop-page : goal.decreases-loop-page
decreases-loop-page l = vec_len l.pages
