-- What is wanted may be made.
use Rattle.std.proofs.Common.{◌∙◌, sym}
use Rattle.vfm_drive.proofs.Runs.{fine_on, has_run}
use Rattle.vfm_drive.proofs.Steps.{want_entry, want_goes, want_run}
use Rattle.vfm_drive.proofs.rounds.step_wanted.Goals as goal

pub make-requires-clause-named : goal.make-requires-clause-named
make-requires-clause-named c = λ made is.
    (want_entry c.args.core.now c.wanted-want.result c.args.abort_after c.fits.ensures c.requires.origin c.requires.mine c.requires.run
    (c.wanted-want.ensures.order c.requires.origin c.requires.mine c.requires.run) made (sym c.entry_wanted.ensures ∙ is)).0

pub make-requires-clause-fine : goal.make-requires-clause-fine
make-requires-clause-fine c = λ made is.
    fine_on c.args.core.now.desc c.requires.origin c.requires.mine c.args.core.now.world made c.requires.run
    (want_entry c.args.core.now c.wanted-want.result c.args.abort_after c.fits.ensures c.requires.origin c.requires.mine c.requires.run
    (c.wanted-want.ensures.order c.requires.origin c.requires.mine c.requires.run) made (sym c.entry_wanted.ensures ∙ is))

pub returns-clause-follows : goal.returns-clause-follows
returns-clause-follows c =
    rw (c.make.ensures, c.entry_wanted.ensures) (λ origin mine run.
    want_run c.args.core.now c.wanted-want.result c.args.abort_after c.fits.ensures origin mine run (c.wanted-want.ensures.order origin mine run))

pub returns-clause-goes_on : goal.returns-clause-goes_on
returns-clause-goes_on c =
    rw (c.make.ensures, c.entry_wanted.ensures) (λ origin mine run.
    want_goes c.args.core.now c.wanted-want.result c.args.abort_after c.fits.ensures origin mine run (c.wanted-want.ensures.order origin mine run))

pub returns-clause-run : goal.returns-clause-run
returns-clause-run c =
    has_run c.args.core.now c.make.new.core c.requires.origin c.requires.mine
    (returns-clause-goes_on c c.requires.origin c.requires.mine c.requires.run)
