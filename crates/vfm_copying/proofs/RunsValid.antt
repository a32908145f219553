-- The machines of the short runs are valid.
use Rattle.std.proofs.Common.{ℕ, zero, suc, ◌<◌, ◌≤◌, refl, arith}
use Rattle.vfm_types.specs.Desc.{device_count, shape_at}
use Rattle.vfm_types.specs.DescFault.{form_fault}
use Rattle.vfm_types.specs.Valid.{IsValid, ShapeInRange}
use Rattle.vfm_copying.specs.Runs.{disk, lone, writer, target, pair}

disk_in_range : ShapeInRange disk
disk_in_range = record {
  name = refl;
  flags = refl;
  bars = refl;
  window_low = omega arith;
  window_high = omega arith;
  budget = omega arith;
  fails = omega arith;
  job_count = omega arith;
  jobs = refl;
  queue_length = omega arith;
  queue = refl;
}

writer_in_range : ShapeInRange writer
writer_in_range = record {
  name = refl;
  flags = refl;
  bars = refl;
  window_low = omega arith;
  window_high = omega arith;
  budget = omega arith;
  fails = omega arith;
  job_count = omega arith;
  jobs = refl;
  queue_length = omega arith;
  queue = refl;
}

target_in_range : ShapeInRange target
target_in_range = record {
  name = refl;
  flags = refl;
  bars = refl;
  window_low = omega arith;
  window_high = omega arith;
  budget = omega arith;
  fails = omega arith;
  job_count = omega arith;
  jobs = refl;
  queue_length = omega arith;
  queue = refl;
}

lone_devices : (rounds d : ℕ) → d < device_count (lone rounds) → ShapeInRange (shape_at (lone rounds) d)
lone_devices rounds zero inside = disk_in_range
lone_devices rounds (suc d) inside = absurd (omega arith)

pair_devices : (d : ℕ) → d < device_count pair → ShapeInRange (shape_at pair d)
pair_devices zero inside = writer_in_range
pair_devices (suc zero) inside = target_in_range
pair_devices (suc (suc d)) inside = absurd (omega arith)

pub lone_valid : (rounds : ℕ) → rounds ≤ 8 → IsValid (lone rounds)
unfolding form_fault
lone_valid rounds few = record {
  in_range = record {
    session = omega arith;
    page = refl;
    pages_low = omega arith;
    pages_high = omega arith;
    channels_low = omega arith;
    channels_high = omega arith;
    version_low = omega arith;
    version_high = omega arith;
    begin = omega arith;
    rounds = omega arith;
    threshold = omega arith;
    count_low = omega arith;
    count_high = omega arith;
    devices = lone_devices rounds;
  };
  sound = refl;
}

pub pair_valid : IsValid pair
unfolding form_fault
pair_valid = record {
  in_range = record {
    session = omega arith;
    page = refl;
    pages_low = omega arith;
    pages_high = omega arith;
    channels_low = omega arith;
    channels_high = omega arith;
    version_low = omega arith;
    version_high = omega arith;
    begin = omega arith;
    rounds = omega arith;
    threshold = omega arith;
    count_low = omega arith;
    count_high = omega arith;
    devices = pair_devices;
  };
  sound = refl;
}
