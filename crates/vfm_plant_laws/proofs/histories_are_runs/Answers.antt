-- Entry by entry.
use Rattle.vfm_plant_laws.proofs.LogRuns.{history_run, history_ended, world_whole}
use Rattle.vfm_plant_laws.proofs.histories_are_runs.Goals as goal

pub returns-clause-run : goal.returns-clause-run
returns-clause-run c = history_run

pub returns-clause-ended : goal.returns-clause-ended
returns-clause-ended c = history_ended

pub returns-clause-whole : goal.returns-clause-whole
returns-clause-whole c = world_whole
