-- All are copied.
use Rattle.std.proofs.Common.{ℕ, List, [], ap₂, arith}
use Rattle.vfm_types.specs.Machine.{DeviceState, Machine}
use Rattle.vfm_core.proofs.Copies.{all_replaced}
use Rattle.vfm_core.proofs.copy.copy_pages.Goals as goal

pub returns : goal.returns
returns c =
    ap₂ (λ (pages : List (List ℕ)) (devices : List DeviceState). let m : Machine = record { pages = pages; devices = devices } in m)
    (all_replaced [] c.args.pages.now c.args.into.now.pages c.loop-p.into.pages c.loop-p.p c.loop-p.invariant.pages (omega arith)) c.loop-p.invariant.devices
