-- The jobs before this one are sound.
use Rattle.std.proofs.Common.{◌≡◌, drop}
use Rattle.vfm_types.specs.DescFault.{jobs_fault}
use Rattle.vfm_types.proofs.desc.Desc.jobs_fault.Given as goal

abbrev pub invariant-loop-j : goal.invariant-loop-j
invariant-loop-j l = jobs_fault l.self l.d l.j (drop l.j l.jobs) ≡ jobs_fault l.self l.d 0 l.jobs
