use Rattle.std.proofs.lemmas.Result.{err_from_is_err_and}
use Rattle.std.proofs.Common.{arith}
use Rattle.serde_json.specs.View.{view}
use Rattle.vfm_types.specs.Valid.{is_job_in_range}
use Rattle.vfm_desc.specs.Described.{job_in}
use Rattle.vfm_desc.proofs.Steps.{goes_on, ends, is_done, list_all-push}
use Rattle.vfm_desc.proofs.parts.each_job.Goals as goal

pub returns-in_err-next-clause-value : goal.returns-in_err-next-clause-value
returns-in_err-next-clause-value c =
    let p = err_from_is_err_and c.from_residual.result c.from_residual.ensures.1 in
    rw (p.1, p.2) (ends c.in_err-next.field-0.0 view (job_in c.args.d) c.loop-j.jobs.items c.loop-j.j c.args.objects.now c.index-objects-j.result _ c.loop-j-test.true c.index-objects-j.is c.in_err-next.ensures.value c.loop-j.invariant.value)

pub loop-j-preserved : goal.loop-j-preserved
loop-j-preserved c = record {
  value = rw c.in-Ok.ensures.items (goes_on view (job_in c.args.d) c.loop-j.jobs.items c.loop-j.j c.args.objects.now c.index-objects-j.result c.in_ok-next.next _ c.loop-j-test.true c.index-objects-j.is c.in_ok-next.ensures.value c.loop-j.invariant.value);
  count = omega (arith, c.in-Ok.ensures.len);
  in_range = rw c.in-Ok.ensures.items (list_all-push is_job_in_range c.loop-j.jobs.items c.in_ok-next.next c.loop-j.invariant.in_range c.in_ok-next.ensures.in_range);
}

pub returns-clause-value : goal.returns-clause-value
returns-clause-value c = is_done view (job_in c.args.d) c.loop-j.jobs.items c.loop-j.j c.args.objects.now _ c.loop-j-test.false c.loop-j.invariant.value
