-- With Resume the run goes on to its end.
use Rattle.std.proofs.Common.{[], ◌∷◌, ◌++◌, Some, sym, subst}
use Rattle.vfm_types.specs.declared.entry.Entry.TheVariants.{Resume}
use Rattle.vfm_core.specs.CoreState.{CoreState}
use Rattle.vfm_drive.specs.Rounds.{ByRounds, with_made}
use Rattle.vfm_drive.specs.Runs.{GoesOn, HasRun, IsOn}
use Rattle.vfm_drive.proofs.Ends.{resume_run, taken_over}
use Rattle.vfm_drive.proofs.endings.take_over.Goals as goal

pub run_on-requires : goal.run_on-requires
run_on-requires c =
    subst (λ (s : CoreState). HasRun s.desc s.world) (sym c.make.ensures)
    (record {
      origin = Some c.requires.before;
      mine = Resume ∷ [];
      run = resume_run c.args.core.now c.fits.ensures c.requires.before c.requires.staged c.requires.may;
    })

pub returns-clause-takes_over : goal.returns-clause-takes_over
returns-clause-takes_over c = λ before staged may.
    let on : GoesOn (with_made (Some Resume) c.args.core.now) c.run_on.new.core (Some before) (Resume ∷ []) =
    subst (λ (s : CoreState). GoesOn s c.run_on.new.core (Some before) (Resume ∷ [])) c.make.ensures
    (c.run_on.ensures.goes_on (Some before) (Resume ∷ [])
    (subst (λ (s : CoreState). IsOn s.desc (Some before) (Resume ∷ []) s.world) (sym c.make.ensures)
    (resume_run c.args.core.now c.fits.ensures before staged may))) in
    taken_over c.args.core.now c.fits.ensures before staged may c.run_on.new.core on
    (c.run_on.ensures.at_end (Some before) (on.more ++ Resume ∷ []) on.run)
    (subst (λ (s : CoreState). ByRounds s c.run_on.new.core 0) c.make.ensures c.run_on.ensures.rounds)

pub returns-clause-run : goal.returns-clause-run
returns-clause-run c = c.run_on.ensures.run
