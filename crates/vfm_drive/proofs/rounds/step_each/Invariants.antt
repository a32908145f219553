-- The devices before this one have stepped.
use Rattle.std.proofs.Common.{◌≡◌}
use Rattle.vfm_drive.specs.Rounds.{devices_stepped}
use Rattle.vfm_drive.proofs.rounds.step_each.Given as goal

abbrev pub invariant-loop-d : goal.invariant-loop-d
invariant-loop-d l = l.core ≡ devices_stepped l.d l.fn.core
