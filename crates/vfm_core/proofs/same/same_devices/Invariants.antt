-- The devices before this one have the same plain state.
use Rattle.std.proofs.Common.{◌≡◌, map, take}
use Rattle.vfm_core.specs.Machines.{plain_of}
use Rattle.vfm_core.proofs.same.same_devices.Given as goal

abbrev pub invariant-loop-d : goal.invariant-loop-d
invariant-loop-d l = map plain_of (take l.d l.one) ≡ map plain_of (take l.d l.other)
