-- Those that are left, and those that were moved, are all.
use Rattle.std.proofs.Common.{◌≡◌, ◌+◌, ◌++◌, map, reverse, vec_len, vec_capacity}
use Rattle.vfm_cells.specs.Cells.{device_cell}
use Rattle.vfm_plant.specs.Rooms.{AreFittingFrom}
use Rattle.vfm_plant.proofs.cells.take_devices.Given as goal

abbrev pub invariant-loop-d : goal.invariant-loop-d
invariant-loop-d l = record {
  all : l.cells.items ++ reverse (map device_cell l.devices.items) ≡ l.fn.cells.items;
  count : vec_len l.devices ≡ l.d;
  left : vec_len l.cells + l.d ≡ vec_len l.fn.cells;
  fits : AreFittingFrom l.desc (l.d + 1) (reverse l.cells.items);
  room : vec_capacity l.devices ≡ vec_capacity l.fn.devices;
}
