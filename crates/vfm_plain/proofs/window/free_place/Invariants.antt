use Rattle.std.proofs.Common.{slice_index_or}
use Rattle.vfm_types.specs.Desc.{no_job}
use Rattle.vfm_types.specs.Job.{is_fence}
use Rattle.vfm_plain.proofs.Places.{Looked}
use Rattle.vfm_plain.proofs.window.free_place.Given as goal

abbrev pub invariant-loop-k : goal.invariant-loop-k
invariant-loop-k l = Looked (λ j. is_fence (slice_index_or l.jobs j no_job)) l.window l.pending l.n l.k
