use Rattle.std.proofs.Common.{ap, sym, ◌∙◌}
use Rattle.vfm_types.specs.Job.{length_of, place_of}
use Rattle.vfm_parts.specs.DeliverStep.{region_of_job}
use Rattle.vfm_parts_laws.proofs.FittingQueues.{own_deliver_fits}
use Rattle.vfm_parts_laws.proofs.FittingTargets.{target_fits}
use Rattle.vfm_device_part.proofs.Deliveries.{lies_in_bar, waits_fine}
use Rattle.vfm_device_part.proofs.steps.deliver_to_device.Goals as goal

pub returns-clause-fits : goal.returns-clause-fits
returns-clause-fits c =
    let waits = sym c.is_undelivered.ensures ∙ c.if-not-is_undelivered.false in
    rw c.deliver.ensures
    (own_deliver_fits c.args.desc.now c.args.d c.args.n c.args.own.now c.bar.result.now c.requires.valid c.requires.device c.requires.fits
    (waits_fine c.args.n c.args.own.now waits))

pub returns-clause-target_fits : goal.returns-clause-target_fits
returns-clause-target_fits c =
    let waits = sym c.is_undelivered.ensures ∙ c.if-not-is_undelivered.false in
    let job = c.job_of-job.result.now in
    let place = place_of c.args.desc.now job in
    let aimed = ap (region_of_job c.args.desc.now) c.job_of-job.ensures.value ∙ c.requires.aimed waits in
    rw c.strike.ensures
    (target_fits c.args.desc.now c.args.t job c.buf.result.now c.args.target.now
    (lies_in_bar c.args.desc.now c.args.t place.offset (length_of job) place.region aimed c.job_of-job.ensures.lies) c.requires.target_fits)
