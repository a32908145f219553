-- Nothing else was due or heard.
use Rattle.vfm_move.proofs.Unanswered.{dest_failed}
use Rattle.vfm_move.proofs.steps.destination_link_failed.Goals as goal

pub returns : goal.returns
returns c = dest_failed
