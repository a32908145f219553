use Rattle.vfm_device_part.proofs.MoveFits.{aborted_fits, begun_fits, failed_fits, first_dev_fits, held_fits, moved_fits, read_fits, reported_fits, resumed_fits}
use Rattle.vfm_device_part.proofs.laws.move_steps_keep_fit.Goals as goal

pub returns-clause-first : goal.returns-clause-first
returns-clause-first c = first_dev_fits

pub returns-clause-begun : goal.returns-clause-begun
returns-clause-begun c = begun_fits

pub returns-clause-held : goal.returns-clause-held
returns-clause-held c = held_fits

pub returns-clause-moved : goal.returns-clause-moved
returns-clause-moved c = moved_fits

pub returns-clause-failed : goal.returns-clause-failed
returns-clause-failed c = failed_fits

pub returns-clause-reported : goal.returns-clause-reported
returns-clause-reported c = reported_fits

pub returns-clause-read : goal.returns-clause-read
returns-clause-read c = read_fits

pub returns-clause-aborted : goal.returns-clause-aborted
returns-clause-aborted c = aborted_fits

pub returns-clause-resumed : goal.returns-clause-resumed
returns-clause-resumed c = resumed_fits
