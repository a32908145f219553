-- The entries before this one were made.
use Rattle.std.proofs.Common.{take}
use Rattle.vfm_audit.specs.Steps.{HasMade}
use Rattle.vfm_audit.proofs.steps.make_all.Given as goal

abbrev pub invariant-loop-i : goal.invariant-loop-i
invariant-loop-i l = HasMade l.fn.core (take l.i l.entries) l.core
