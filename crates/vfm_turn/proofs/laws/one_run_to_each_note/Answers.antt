use Rattle.vfm_turn.proofs.Runs.{runs_to_notes}
use Rattle.vfm_turn.proofs.laws.one_run_to_each_note.Goals as goal

pub returns : goal.returns
returns g c = runs_to_notes g.L.Local.allows
