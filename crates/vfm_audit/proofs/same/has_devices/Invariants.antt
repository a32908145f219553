-- The devices before this one are the same.
use Rattle.std.proofs.Common.{◌≡◌, take}
use Rattle.vfm_audit.proofs.same.has_devices.Given as goal

abbrev pub invariant-loop-d : goal.invariant-loop-d
invariant-loop-d l = take l.d l.machine.devices ≡ take l.d l.devices
