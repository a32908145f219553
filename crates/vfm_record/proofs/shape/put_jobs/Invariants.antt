-- The lines of the jobs so far are taken in.
use Rattle.std.proofs.Common.{take}
use Rattle.std.specs.List.{flat_map}
use Rattle.vfm_record.specs.Hashing.{TookIn}
use Rattle.vfm_record.specs.Shape.{job_line}
use Rattle.vfm_record.proofs.shape.put_jobs.Given as goal

abbrev pub invariant-loop-job : goal.invariant-loop-job
invariant-loop-job l = TookIn l.fn.hasher l.hasher (flat_map job_line (take l.job-index l.job-items))
