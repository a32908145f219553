-- The counts of a sound machine, and how many records close its streams.
use Rattle.std.proofs.Common.{sym, ℕ, zero, suc, ◌+◌, ◌*◌, ◌<◌, ◌≤◌, List, length, arith}
use Rattle.std.specs.List.{All}
use Rattle.std.proofs.lemmas.List.Elements.{All-from_get_or}
use Rattle.std.proofs.lemmas.List.Sums.{sum_by-le}
use Rattle.vfm_types.specs.declared.desc.Desc.{Desc}
use Rattle.vfm_types.specs.Desc.{device_count}
use Rattle.vfm_types.specs.Machine.{DeviceState, Machine, no_device, device_of}
use Rattle.vfm_types.specs.Valid.{IsValid}
use Rattle.vfm_plain.specs.Shape.{IsSound}
use Rattle.vfm_streams.specs.Sent.{Sent, push, pending_records, engine_record, with_device_closed, with_devices_closed}
use Rattle.vfm_closing.specs.Closing.{HasEngine}
use Rattle.vfm_closing.proofs.Pieces.{few_records}
use Rattle.vfm_closing.proofs.Room.{pushed_length}

-- no device has lost more than all budgets allow
few_lost : (D : Desc) (m : Machine) → IsValid D → IsSound D m → (d : ℕ) → d < device_count D → (device_of m d).lost ≤ 400000
few_lost D m valid sound d inside =
    let few : All (λ (dev : DeviceState). dev.done ≤ 50000) m.devices =
    All-from_get_or (λ dev. dev.done ≤ 50000) m.devices no_device
    (λ k h. let there : k < device_count D = omega (arith, sound.shape.devices) in
    omega (arith, (sound.counts k there).accepted, (sound.counts k there).within, (valid.in_range.devices k there).budget)) in
    omega (arith, sound.losses d inside, sum_by-le (λ (dev : DeviceState). dev.done) 50000 m.devices few, sound.shape.devices, valid.in_range.count_high)

-- the counts and the buffer of each device fit a record
pub engine_of : (D : Desc) (m : Machine) → IsValid D → IsSound D m → (d : ℕ) → d < device_count D → HasEngine (device_of m d)
engine_of D m valid sound d inside =
    record {
      accepted = omega (arith, (sound.counts d inside).within, (valid.in_range.devices d inside).budget);
      counted = sym (sound.counts d inside).accepted;
      lost = few_lost D m valid sound d inside;
      buf = (sound.shape.device d inside).buf;
    }

-- a device has at most 50,000 pending requests
pub few_pending : (D : Desc) (m : Machine) → IsValid D → IsSound D m → (d : ℕ) → d < device_count D → length (device_of m d).pending ≤ 50000
few_pending D m valid sound d inside =
    let is = engine_of D m valid sound d inside in omega (arith, is.accepted, is.counted)

-- at most 15 records close the stream of a device
device_length : (D : Desc) (d : ℕ) (device : DeviceState) (all : List Sent) → length device.pending ≤ 50000
    → length (with_device_closed D d device all) ≤ length all + 15
device_length D d device all few =
    omega (arith, pushed_length (suc d) (pending_records device.pending) (push (suc d) (engine_record device) all), few_records device.pending few)

pub devices_length : (D : Desc) (m : Machine) → IsValid D → IsSound D m → (n : ℕ) (all : List Sent) → n ≤ device_count D
    → length (with_devices_closed D m n all) ≤ length all + 15 * n
devices_length D m valid sound zero all few = omega arith
devices_length D m valid sound (suc d) all few =
    let before : length (with_devices_closed D m d all) ≤ length all + 15 * d = devices_length D m valid sound d all (omega (arith, few)) in
    omega (arith, before, device_length D d (device_of m d) (with_devices_closed D m d all) (few_pending D m valid sound d (omega (arith, few))))
