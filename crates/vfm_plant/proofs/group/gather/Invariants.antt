-- The devices that are left, last first, follow those in the hands.
use Rattle.std.proofs.Common.{◌≡◌, ◌+◌, ◌++◌, reverse, vec_len, vec_capacity}
use Rattle.vfm_plant.specs.Group.{dev_hands, group_hands}
use Rattle.vfm_plant.proofs.group.gather.Given as goal

abbrev pub invariant-loop-device : goal.invariant-loop-device
invariant-loop-device l = record {
  all : l.hands.items ++ dev_hands l.cell (reverse l.devices.items) ≡ group_hands l.fn.lead l.fn.devices.items;
  count : l.cell + vec_len l.devices ≡ vec_len l.fn.devices + 1;
  held : vec_len l.hands ≡ l.cell;
  capacity : vec_capacity l.hands ≡ vec_capacity l.fn.hands;
  room : vec_capacity l.devices ≡ vec_capacity l.fn.devices;
}

abbrev pub decreases-loop-device : goal.decreases-loop-device
decreases-loop-device l = vec_len l.devices
