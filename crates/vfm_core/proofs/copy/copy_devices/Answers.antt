-- All are copied.
use Rattle.std.proofs.Common.{ℕ, ◌≤◌, List, length, map, ap₂, arith}
use Rattle.std.proofs.lemmas.List.{length-map}
use Rattle.vfm_types.specs.Machine.{DeviceState, Machine, no_device}
use Rattle.vfm_core.specs.Machines.{plain_of}
use Rattle.vfm_core.proofs.Copies.{all_replaced}
use Rattle.vfm_core.proofs.copy.copy_devices.Goals as goal

pub returns : goal.returns
returns c =
    let count = length-map c.args.devices.now plain_of in
    let all : length (map plain_of c.args.devices.now) ≤ c.loop-d.d = omega arith in
    ap₂ (λ (pages : List (List ℕ)) (devices : List DeviceState). let m : Machine = record { pages = pages; devices = devices } in m) c.loop-d.invariant.pages
    (all_replaced no_device (map plain_of c.args.devices.now) c.args.into.now.devices c.loop-d.into.devices c.loop-d.d c.loop-d.invariant.devices all)
