-- One entry less is left.
use Rattle.vfm_core.proofs.Kept.{one_more, kept_after}
use Rattle.vfm_core.proofs.laws.steps_are_kept.Goals as goal

pub returns-clause-room : goal.returns-clause-room
returns-clause-room c = one_more

pub returns-clause-kept : goal.returns-clause-kept
returns-clause-kept c = kept_after
