-- Entry by entry.
use Rattle.vfm_plant_laws.proofs.KeptRuns.{run_kept, run_room}
use Rattle.vfm_plant_laws.proofs.runs_are_kept.Goals as goal

pub returns-clause-kept : goal.returns-clause-kept
returns-clause-kept c = run_kept

pub returns-clause-room : goal.returns-clause-room
returns-clause-room c = run_room
