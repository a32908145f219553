-- The lines before are those now, with less said.
use Rattle.vfm_move.proofs.GoSaid.{still_confirmed}
use Rattle.vfm_move.proofs.ends.go_was_said.Goals as goal

pub returns : goal.returns
returns c = still_confirmed
