-- The order doesn't wait where no request can move.
use Rattle.vfm_order.proofs.Motion.{rest_moves}
use Rattle.vfm_order.proofs.Still.{still_rests}
use Rattle.vfm_order.proofs.Wants.{done_of_done}
use Rattle.vfm_drive.proofs.Still.{done_on, done_want, ended_on}
use Rattle.vfm_quiet.specs.Order.{next_want}
use Rattle.vfm_order.specs.LookAfter.{look_after}
use Rattle.vfm_drive.proofs.laws.still_moves_are_done.Goals as goal

pub returns-clause-wants_done : goal.returns-clause-wants_done
returns-clause-wants_done c = done_on

pub returns-clause-is_done : goal.returns-clause-is_done
returns-clause-is_done c = λ D past n valid legal still no_entry.
    (done_of_done D valid past legal n
    (done_want (next_want D (look_after D past) n) no_entry (rest_moves D past n valid legal (still_rests D past valid legal still)))).0

pub returns-clause-at_end : goal.returns-clause-at_end
returns-clause-at_end c = λ D past n valid legal end. (done_of_done D valid past legal n end.done).0

pub returns-clause-ended : goal.returns-clause-ended
returns-clause-ended c = ended_on
