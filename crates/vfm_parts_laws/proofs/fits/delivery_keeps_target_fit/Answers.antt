-- A valid description's jobs lie where they are aimed.
use Rattle.vfm_parts_laws.proofs.FittingQueues.{job_sound, job_lies}
use Rattle.vfm_parts_laws.proofs.FittingTargets.{target_fits, page_fits}
use Rattle.vfm_parts_laws.proofs.fits.delivery_keeps_target_fit.Goals as goal

pub returns-clause-sound : goal.returns-clause-sound
returns-clause-sound c = job_sound

pub returns-clause-lies : goal.returns-clause-lies
returns-clause-lies c = job_lies

pub returns-clause-device : goal.returns-clause-device
returns-clause-device c = target_fits

pub returns-clause-page : goal.returns-clause-page
returns-clause-page c = page_fits
