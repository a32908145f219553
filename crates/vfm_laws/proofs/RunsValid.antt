-- The machines of the short runs are valid.
use Rattle.std.proofs.Common.{ℕ, zero, suc, ◌<◌, refl, arith}
use Rattle.vfm_types.specs.Desc.{device_count, shape_at}
use Rattle.vfm_types.specs.DescFault.{form_fault}
use Rattle.vfm_types.specs.Valid.{IsValid, ShapeInRange}
use Rattle.vfm_laws.specs.Runs.{disk, lone, first_peer, second_peer, peers}

disk_in_range : ShapeInRange disk
disk_in_range = record {
  name = refl;
  flags = refl;
  bars = refl;
  window_low = omega arith;
  window_high = omega arith;
  budget = omega arith;
  fails = omega arith;
  job_count = omega arith;
  jobs = refl;
  queue_length = omega arith;
  queue = refl;
}

first_in_range : ShapeInRange first_peer
first_in_range = record {
  name = refl;
  flags = refl;
  bars = refl;
  window_low = omega arith;
  window_high = omega arith;
  budget = omega arith;
  fails = omega arith;
  job_count = omega arith;
  jobs = refl;
  queue_length = omega arith;
  queue = refl;
}

second_in_range : ShapeInRange second_peer
second_in_range = record {
  name = refl;
  flags = refl;
  bars = refl;
  window_low = omega arith;
  window_high = omega arith;
  budget = omega arith;
  fails = omega arith;
  job_count = omega arith;
  jobs = refl;
  queue_length = omega arith;
  queue = refl;
}

lone_devices : (d : ℕ) → d < device_count lone → ShapeInRange (shape_at lone d)
lone_devices zero inside = disk_in_range
lone_devices (suc d) inside = absurd (omega arith)

peers_devices : (d : ℕ) → d < device_count peers → ShapeInRange (shape_at peers d)
peers_devices zero inside = first_in_range
peers_devices (suc zero) inside = second_in_range
peers_devices (suc (suc d)) inside = absurd (omega arith)

pub lone_valid : IsValid lone
unfolding form_fault
lone_valid = record {
  in_range = record {
    session = omega arith;
    page = refl;
    pages_low = omega arith;
    pages_high = omega arith;
    channels_low = omega arith;
    channels_high = omega arith;
    version_low = omega arith;
    version_high = omega arith;
    begin = omega arith;
    rounds = omega arith;
    threshold = omega arith;
    count_low = omega arith;
    count_high = omega arith;
    devices = lone_devices;
  };
  sound = refl;
}

pub peers_valid : IsValid peers
unfolding form_fault
peers_valid = record {
  in_range = record {
    session = omega arith;
    page = refl;
    pages_low = omega arith;
    pages_high = omega arith;
    channels_low = omega arith;
    channels_high = omega arith;
    version_low = omega arith;
    version_high = omega arith;
    begin = omega arith;
    rounds = omega arith;
    threshold = omega arith;
    count_low = omega arith;
    count_high = omega arith;
    devices = peers_devices;
  };
  sound = refl;
}
