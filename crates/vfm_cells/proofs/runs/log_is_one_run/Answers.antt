-- Entry by entry.
use Rattle.vfm_cells.proofs.WholeRuns.{whole_run, earlier_run}
use Rattle.vfm_cells.proofs.runs.log_is_one_run.Goals as goal

pub returns-clause-whole : goal.returns-clause-whole
returns-clause-whole c = whole_run

pub returns-clause-earlier : goal.returns-clause-earlier
returns-clause-earlier c = earlier_run
