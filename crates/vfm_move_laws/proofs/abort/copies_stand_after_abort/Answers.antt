-- Entry by entry.
use Rattle.vfm_move_laws.proofs.AfterAbort.{all_kept, shares_kept}
use Rattle.vfm_move_laws.proofs.abort.copies_stand_after_abort.Goals as goal

pub returns-clause-copies : goal.returns-clause-copies
returns-clause-copies c = all_kept

pub returns-clause-shares : goal.returns-clause-shares
returns-clause-shares c = shares_kept
