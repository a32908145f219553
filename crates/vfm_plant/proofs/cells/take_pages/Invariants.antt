-- Those that are left, and those that were moved, are all.
use Rattle.std.proofs.Common.{◌≡◌, ◌+◌, ◌++◌, map, reverse, vec_len, vec_capacity}
use Rattle.vfm_cells.specs.Cells.{page_cell, page_number}
use Rattle.vfm_plant.specs.Rooms.{AreFittingFrom}
use Rattle.vfm_plant.proofs.cells.take_pages.Given as goal

abbrev pub invariant-loop-p : goal.invariant-loop-p
invariant-loop-p l = record {
  all : l.cells.items ++ reverse (map page_cell l.pages.items) ≡ l.fn.cells.items;
  count : vec_len l.pages ≡ l.p;
  left : vec_len l.cells + l.p ≡ vec_len l.fn.cells;
  fits : AreFittingFrom l.desc (page_number l.desc l.p) (reverse l.cells.items);
  room : vec_capacity l.pages ≡ vec_capacity l.fn.pages;
}
