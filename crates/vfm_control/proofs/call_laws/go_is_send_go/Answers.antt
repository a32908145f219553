-- What go is.
use Rattle.vfm_control.proofs.Calls.{go_sends}
use Rattle.vfm_control.proofs.call_laws.go_is_send_go.Goals as goal

pub returns : goal.returns
returns c p own heard = go_sends p own heard
