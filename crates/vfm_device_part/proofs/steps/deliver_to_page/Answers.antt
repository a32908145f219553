use Rattle.std.proofs.Common.{ap, sym, ◌∙◌}
use Rattle.vfm_types.specs.Job.{length_of, place_of}
use Rattle.vfm_parts.specs.DeliverStep.{region_of_job}
use Rattle.vfm_parts_laws.proofs.FittingQueues.{own_deliver_fits}
use Rattle.vfm_parts_laws.proofs.FittingTargets.{page_fits}
use Rattle.vfm_device_part.proofs.Deliveries.{lies_in_page, waits_fine}
use Rattle.vfm_device_part.proofs.steps.deliver_to_page.Goals as goal

pub returns-clause-fits : goal.returns-clause-fits
returns-clause-fits c =
    let waits = sym c.is_undelivered.ensures ∙ c.if-not-is_undelivered.false in
    rw c.deliver.ensures
    (own_deliver_fits c.args.desc.now c.args.d c.args.n c.args.own.now c.bytes.result.now c.requires.valid c.requires.device c.requires.fits
    (waits_fine c.args.n c.args.own.now waits))

pub returns-clause-page_fits : goal.returns-clause-page_fits
returns-clause-page_fits c =
    let waits = sym c.is_undelivered.ensures ∙ c.if-not-is_undelivered.false in
    let job = c.job_of-job.result.now in
    let place = place_of c.args.desc.now job in
    let aimed = ap (region_of_job c.args.desc.now) c.job_of-job.ensures.value ∙ c.requires.aimed waits in
    rw c.strike.ensures
    (page_fits c.args.desc.now job c.buf.result.now c.args.page.now
    (lies_in_page c.args.desc.now c.args.p place.offset (length_of job) place.region aimed c.job_of-job.ensures.lies) c.requires.page_fits)
