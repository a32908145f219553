-- The answer heard is the own one, and nothing was heard of Go.
use Rattle.vfm_move.proofs.Confirmed.{go_failed}
use Rattle.vfm_move.proofs.steps.go_wasnt_sent.Goals as goal

pub returns : goal.returns
returns c = go_failed
