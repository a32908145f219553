-- The devices before this one have sound jobs.
use Rattle.std.proofs.Common.{◌≡◌, drop}
use Rattle.vfm_types.specs.DescFault.{devices_fault}
use Rattle.vfm_types.proofs.desc.Desc.devices_fault.Given as goal

abbrev pub invariant-loop-d : goal.invariant-loop-d
invariant-loop-d l = devices_fault l.self l.d (drop l.d l.self.devices) ≡ devices_fault l.self 0 l.self.devices
