use Rattle.std.proofs.Common.{◌≡◌, take}
use Rattle.vfm_plain.proofs.plain.same_devices.Given as goal

abbrev pub invariant-loop-d : goal.invariant-loop-d
invariant-loop-d l = take l.d l.one ≡ take l.d l.other
