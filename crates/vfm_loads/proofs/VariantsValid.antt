-- The small machines are valid.
use Rattle.std.proofs.Common.{◌≡◌, ℕ, zero, suc, ◌<◌, ◌≤◌, List, [], ◌∷◌, length, get_or, nat_lt, None, IsTrue, refl, arith}
use Rattle.std.specs.List.{list_all}
use Rattle.vfm_types.specs.declared.job.Job.{Job}
use Rattle.vfm_types.specs.declared.desc.DevShape.{DevShape}
use Rattle.vfm_types.specs.Bytes.{is_name}
use Rattle.vfm_types.specs.Desc.{no_shape}
use Rattle.vfm_types.specs.DescFault.{form_fault}
use Rattle.vfm_types.specs.Valid.{IsValid, ShapeInRange, is_job_in_range}
use Rattle.vfm_loads.specs.Variants.{small_device, small_machine, adder, writer, sharers, painter, ringer}

device_in_range : (letter : ℕ) (jobs : List Job) (queue : List ℕ) → IsTrue (is_name (letter ∷ [])) → length jobs ≤ 4096
    → IsTrue (list_all is_job_in_range jobs) → length queue ≤ 4 → IsTrue (list_all (λ j. nat_lt j (length jobs)) queue)
    → ShapeInRange (small_device letter jobs queue)
device_in_range letter jobs queue name few jobs_in short queue_in = record {
  name = name;
  flags = refl;
  bars = refl;
  window_low = omega arith;
  window_high = omega arith;
  budget = omega arith;
  fails = omega arith;
  job_count = few;
  jobs = jobs_in;
  queue_length = short;
  queue = queue_in;
}

machine_valid : (devices : List DevShape) → 1 ≤ length devices → length devices ≤ 8
    → ((d : ℕ) → d < length devices → ShapeInRange (get_or devices d no_shape)) → form_fault (small_machine devices) ≡ None → IsValid (small_machine devices)
machine_valid devices some few each sound = record {
  in_range = record {
    session = omega arith;
    page = refl;
    pages_low = omega arith;
    pages_high = omega arith;
    channels_low = omega arith;
    channels_high = omega arith;
    version_low = omega arith;
    version_high = omega arith;
    begin = omega arith;
    rounds = omega arith;
    threshold = omega arith;
    count_low = some;
    count_high = few;
    devices = each;
  };
  sound = sound;
}

one_device : (first : DevShape) → ShapeInRange first → (d : ℕ) → d < 1 → ShapeInRange (get_or (first ∷ []) d no_shape)
one_device first is zero inside = is
one_device first is (suc d) inside = absurd (omega arith)

two_devices : (first second : DevShape) → ShapeInRange first → ShapeInRange second → (d : ℕ) → d < 2 → ShapeInRange (get_or (first ∷ second ∷ []) d no_shape)
two_devices first second is also zero inside = is
two_devices first second is also (suc zero) inside = also
two_devices first second is also (suc (suc d)) inside = absurd (omega arith)

pub adder_valid : IsValid adder
unfolding form_fault
adder_valid = machine_valid adder.devices (omega arith) (omega arith) (one_device _ (device_in_range 97 _ _ refl (omega arith) refl (omega arith) refl)) refl

pub writer_valid : IsValid writer
unfolding form_fault
writer_valid = machine_valid writer.devices (omega arith) (omega arith) (one_device _ (device_in_range 97 _ _ refl (omega arith) refl (omega arith) refl)) refl

pub sharers_valid : IsValid sharers
unfolding form_fault
sharers_valid =
    machine_valid sharers.devices (omega arith) (omega arith)
    (two_devices _ _ (device_in_range 97 _ _ refl (omega arith) refl (omega arith) refl) (device_in_range 98 _ _ refl (omega arith) refl (omega arith) refl)) refl

pub painter_valid : IsValid painter
unfolding form_fault
painter_valid =
    machine_valid painter.devices (omega arith) (omega arith)
    (two_devices _ _ (device_in_range 97 _ _ refl (omega arith) refl (omega arith) refl) (device_in_range 98 _ _ refl (omega arith) refl (omega arith) refl)) refl

pub ringer_valid : IsValid ringer
unfolding form_fault
ringer_valid =
    machine_valid ringer.devices (omega arith) (omega arith)
    (two_devices _ _ (device_in_range 97 _ _ refl (omega arith) refl (omega arith) refl) (device_in_range 98 _ _ refl (omega arith) refl (omega arith) refl)) refl
