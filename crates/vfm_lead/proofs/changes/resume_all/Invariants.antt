-- The devices before this one are changed.
use Rattle.vfm_parts.specs.ResumeStep.{resumed_dev}
use Rattle.vfm_lead.proofs.Changed.{Changed}
use Rattle.vfm_lead.proofs.changes.resume_all.Given as goal

abbrev pub invariant-loop-d : goal.invariant-loop-d
invariant-loop-d l = Changed resumed_dev l.fn.devices l.devices l.d
