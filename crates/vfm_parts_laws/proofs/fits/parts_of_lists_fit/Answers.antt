-- By induction over the list.
use Rattle.vfm_parts_laws.proofs.FittingWorlds.{first_fits, list_fits}
use Rattle.vfm_parts_laws.proofs.fits.parts_of_lists_fit.Goals as goal

pub returns-clause-first : goal.returns-clause-first
returns-clause-first c = first_fits

pub returns-clause-listed : goal.returns-clause-listed
returns-clause-listed c = list_fits
