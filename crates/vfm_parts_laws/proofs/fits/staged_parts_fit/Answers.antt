-- Nothing is on the bus, counted or marked.
use Rattle.vfm_parts_laws.proofs.FittingWorlds.{staged_fits}
use Rattle.vfm_parts_laws.proofs.fits.staged_parts_fit.Goals as goal

pub returns : goal.returns
returns c = staged_fits
