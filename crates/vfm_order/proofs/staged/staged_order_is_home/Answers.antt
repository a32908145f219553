-- Before the move is over no line applies, and then the first line sees what the whole list shows.
use Rattle.vfm_order.proofs.StagedLooks.{staged_held, staged_home}
use Rattle.vfm_order.proofs.staged.staged_order_is_home.Goals as goal

pub returns-clause-before : goal.returns-clause-before
returns-clause-before c = λ D before mine n staged open_. staged_held D before mine n staged.whole staged.legal open_

pub returns-clause-after : goal.returns-clause-after
returns-clause-after c = λ D before mine n valid over. staged_home D valid before mine n over
