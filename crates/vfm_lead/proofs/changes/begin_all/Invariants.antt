-- The devices before this one are changed.
use Rattle.vfm_parts.specs.BeginStep.{begun_dev}
use Rattle.vfm_lead.proofs.Changed.{Changed}
use Rattle.vfm_lead.proofs.changes.begin_all.Given as goal

abbrev pub invariant-loop-d : goal.invariant-loop-d
invariant-loop-d l = Changed begun_dev l.fn.devices l.devices l.d
