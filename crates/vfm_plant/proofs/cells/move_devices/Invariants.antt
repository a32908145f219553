-- Those that are left, last first, follow those that were moved.
use Rattle.std.proofs.Common.{◌≡◌, ◌+◌, ◌≤◌, ◌++◌, map, reverse, vec_len, vec_capacity}
use Rattle.vfm_cells.specs.Cells.{device_cell}
use Rattle.vfm_plant.proofs.cells.move_devices.Given as goal

abbrev pub invariant-loop-device : goal.invariant-loop-device
invariant-loop-device l = record {
  all : l.cells.items ++ map device_cell (reverse l.devices.items) ≡ l.fn.cells.items ++ map device_cell l.fn.devices.items;
  fits : vec_len l.cells + vec_len l.devices ≤ vec_capacity l.cells;
  capacity : vec_capacity l.cells ≡ vec_capacity l.fn.cells;
  room : vec_capacity l.devices ≡ vec_capacity l.fn.devices;
}

abbrev pub decreases-loop-device : goal.decreases-loop-device
decreases-loop-device l = vec_len l.devices
