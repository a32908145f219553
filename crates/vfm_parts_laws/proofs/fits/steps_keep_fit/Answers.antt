-- Kind by kind.
use Rattle.vfm_parts_laws.proofs.Fitting.{step_fits}
use Rattle.vfm_parts_laws.proofs.FittingWorlds.{step_world_fits}
use Rattle.vfm_parts_laws.proofs.fits.steps_keep_fit.Goals as goal

pub returns-clause-parts : goal.returns-clause-parts
returns-clause-parts c = step_fits

pub returns-clause-world : goal.returns-clause-world
returns-clause-world c = step_world_fits
