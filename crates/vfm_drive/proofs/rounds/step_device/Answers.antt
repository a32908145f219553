-- The step that is picked breaks no rule.
use Rattle.std.proofs.Common.{◌∙◌, sym}
use Rattle.vfm_drive.proofs.Steps.{none_iff, step_fine, step_named, stepped_on, stepped_run}
use Rattle.vfm_drive.proofs.rounds.step_device.Goals as goal

pub make-requires-clause-named : goal.make-requires-clause-named
make-requires-clause-named c = λ made is. step_named c.args.core.now c.args.d c.fits.ensures c.requires made (sym c.pick-step.ensures ∙ is)

pub make-requires-clause-fine : goal.make-requires-clause-fine
make-requires-clause-fine c = λ made is. step_fine c.args.core.now c.args.d c.fits.ensures c.requires made (sym c.pick-step.ensures ∙ is)

pub returns-clause-none : goal.returns-clause-none
returns-clause-none c = rw c.pick-step.ensures (none_iff c.args.core.now c.args.d c.fits.ensures c.requires)

pub returns-clause-follows : goal.returns-clause-follows
returns-clause-follows c = rw (c.make.ensures, c.pick-step.ensures) (stepped_run c.args.core.now c.args.d c.fits.ensures c.requires)

pub returns-clause-goes_on : goal.returns-clause-goes_on
returns-clause-goes_on c = rw (c.make.ensures, c.pick-step.ensures) (stepped_on c.args.core.now c.args.d c.fits.ensures c.requires)
