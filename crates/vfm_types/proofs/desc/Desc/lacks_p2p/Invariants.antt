-- The devices before this one have the peer-to-peer states.
use Rattle.std.proofs.Common.{◌≡◌, drop}
use Rattle.vfm_types.specs.DescFault.{lacks_p2p}
use Rattle.vfm_types.proofs.desc.Desc.lacks_p2p.Given as goal

abbrev pub invariant-loop-d : goal.invariant-loop-d
invariant-loop-d l = lacks_p2p l.d (drop l.d l.self.devices) ≡ lacks_p2p 0 l.self.devices
