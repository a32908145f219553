-- The devices before this one have names that differ.
use Rattle.std.proofs.Common.{◌≡◌, [], take, drop}
use Rattle.vfm_types.specs.DescFault.{name_twice}
use Rattle.vfm_types.proofs.FormFault.{names_onto}
use Rattle.vfm_types.proofs.desc.Desc.name_twice.Given as goal

abbrev pub invariant-loop-d : goal.invariant-loop-d
invariant-loop-d l = name_twice (names_onto [] (take l.d l.shapes)) l.d (drop l.d l.shapes) ≡ name_twice [] 0 l.self.devices
