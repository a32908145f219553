-- The answer heard is the own one, and less than a frame came of Go.
use Rattle.vfm_move.proofs.Confirmed.{go_unread}
use Rattle.vfm_move.proofs.steps.go_wasnt_read.Goals as goal

pub returns : goal.returns
returns c = go_unread
