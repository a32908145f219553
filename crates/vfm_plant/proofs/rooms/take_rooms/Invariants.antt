-- Each has its room so far.
use Rattle.std.proofs.Common.{◌≡◌, ◌≤◌, All, vec_len, vec_capacity}
use Rattle.vfm_plant.specs.Rooms.{IsRoom}
use Rattle.vfm_plant.proofs.rooms.take_rooms.Given as goal

abbrev pub invariant-loop-i : goal.invariant-loop-i
invariant-loop-i l = record {
  count : vec_len l.each ≡ l._i;
  room : l.seats ≤ vec_capacity l.each;
  each : All (IsRoom l.devices l.seats) l.each.items;
}
