-- By the lines, of which each has something that can be made.
use Rattle.vfm_order.proofs.Motion.{over_moves, rest_moves, staged_moves}
use Rattle.vfm_order.proofs.Still.{idle_rests, still_rests}
use Rattle.vfm_order.proofs.idle.idle_moves_on.Goals as goal

pub returns-clause-idle : goal.returns-clause-idle
returns-clause-idle c = λ D past n valid legal idle. rest_moves D past n valid legal (idle_rests D past idle)

pub returns-clause-still : goal.returns-clause-still
returns-clause-still c = λ D past n valid legal still. rest_moves D past n valid legal (still_rests D past valid legal still)

pub returns-clause-home : goal.returns-clause-home
returns-clause-home c = λ D past n valid legal over. over_moves D past n valid legal over

pub returns-clause-staged : goal.returns-clause-staged
returns-clause-staged c = λ D before mine n staged. staged_moves D staged.valid before mine staged.whole staged.legal n
