use Rattle.vfm_turn.proofs.Runs.{one_run_of}
use Rattle.vfm_turn.proofs.laws.one_run.Goals as goal

pub returns : goal.returns
returns g c = one_run_of g.L.Local.allows
