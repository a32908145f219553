use Rattle.std.proofs.Common.{◌≡◌, IsTrue, vec_len, drop, map}
use Rattle.std.specs.List.{list_all}
use Rattle.serde_json.specs.View.{view}
use Rattle.vfm_types.specs.Valid.{is_job_in_range}
use Rattle.vfm_desc.specs.Reading.{each}
use Rattle.vfm_desc.specs.Described.{job_in}
use Rattle.vfm_desc.proofs.Steps.{with_front}
use Rattle.vfm_desc.proofs.parts.each_job.Given as goal

abbrev pub invariant-loop-j : goal.invariant-loop-j
invariant-loop-j l = record {
  value : with_front l.jobs.items (each (job_in l.d) l.j (map view (drop l.j l.objects))) ≡ each (job_in l.d) 0 (map view l.objects);
  count : vec_len l.jobs ≡ l.j;
  in_range : IsTrue (list_all is_job_in_range l.jobs.items);
}
