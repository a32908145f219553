-- The look shows what is seen of the run.
use Rattle.std.proofs.Common.{◌∙◌, sym}
use Rattle.vfm_drive.proofs.Steps.{alike_on, want_may, wanted_is}
use Rattle.vfm_drive.proofs.rounds.wanted.Goals as goal

pub returns-clause-order : goal.returns-clause-order
returns-clause-order c = λ origin mine is.
    (rw c.desc.ensures.value at c.next.ensures)
    ∙ wanted_is c.args.core.now.desc origin mine c.look.result c.args.abort_after
    (alike_on c.args.core.now.desc c.args.core.now.world c.look.result c.look.ensures.follows c.look.ensures.staged origin mine is)

pub returns-clause-may : goal.returns-clause-may
returns-clause-may c = λ origin mine is entry want.
    want_may c.args.core.now.desc origin mine c.args.core.now.world c.args.abort_after entry c.fits.ensures.valid is
    (sym (returns-clause-order c origin mine is) ∙ want)
