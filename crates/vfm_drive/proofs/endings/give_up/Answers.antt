-- With Abort, or as it is, the run goes on to its end.
use Rattle.std.proofs.Common.{◌≡◌, Bool, if◌then◌else◌, ◌∷◌, ◌++◌, Option, None, Some, ap, sym, subst, ◌∙◌}
use Rattle.vfm_types.specs.declared.entry.Entry.{Entry}
use Rattle.vfm_types.specs.declared.entry.Entry.TheVariants.{Abort}
use Rattle.vfm_core.specs.CoreState.{CoreState}
use Rattle.vfm_drive.specs.Rounds.{ByRounds, with_made}
use Rattle.vfm_drive.specs.Runs.{GoesOn, HasRun, IsOn}
use Rattle.vfm_drive.proofs.Ends.{abort_run, due_run, given_up, goes_home}
use Rattle.vfm_drive.proofs.endings.give_up.Goals as goal

pub run_on-requires : goal.run_on-requires
run_on-requires c =
    subst (λ (s : CoreState). HasRun s.desc s.world) (sym c.make.ensures)
    (due_run c.args.core.now c.fits.ensures c.requires.origin c.requires.mine c.requires.run c.abort_due.result
    (c.abort_due.ensures c.requires.origin c.requires.mine c.requires.run))

pub returns-clause-gives_up : goal.returns-clause-gives_up
returns-clause-gives_up c = λ origin mine run open_.
    let made : c.make.new.core ≡ with_made (Some Abort) c.args.core.now =
    c.make.ensures ∙ ap (λ (o : Option Entry). with_made o c.args.core.now)
    (c.abort_due.ensures origin mine run ∙ ap (λ (b : Bool). if b then None else Some Abort) open_) in
    let on : GoesOn (with_made (Some Abort) c.args.core.now) c.run_on.new.core origin (Abort ∷ mine) =
    subst (λ (s : CoreState). GoesOn s c.run_on.new.core origin (Abort ∷ mine)) made
    (c.run_on.ensures.goes_on origin (Abort ∷ mine)
    (subst (λ (s : CoreState). IsOn s.desc origin (Abort ∷ mine) s.world) (sym made) (abort_run c.args.core.now c.fits.ensures origin mine run open_))) in
    given_up c.args.core.now c.run_on.new.core c.fits.ensures origin mine run open_ on (c.run_on.ensures.at_end origin (on.more ++ Abort ∷ mine) on.run)
    (subst (λ (s : CoreState). ByRounds s c.run_on.new.core 0) made c.run_on.ensures.rounds)

pub returns-clause-goes_home : goal.returns-clause-goes_home
returns-clause-goes_home c = λ origin mine run over.
    let made : c.make.new.core ≡ c.args.core.now =
    c.make.ensures ∙ ap (λ (o : Option Entry). with_made o c.args.core.now)
    (c.abort_due.ensures origin mine run ∙ ap (λ (b : Bool). if b then None else Some Abort) over) in
    let on : GoesOn c.args.core.now c.run_on.new.core origin mine =
    subst (λ (s : CoreState). GoesOn s c.run_on.new.core origin mine) made
    (c.run_on.ensures.goes_on origin mine (subst (λ (s : CoreState). IsOn s.desc origin mine s.world) (sym made) run)) in
    goes_home c.args.core.now c.run_on.new.core 0 c.fits.ensures origin mine on (c.run_on.ensures.at_end origin (on.more ++ mine) on.run) over
    (subst (λ (s : CoreState). ByRounds s c.run_on.new.core 0) made c.run_on.ensures.rounds)

pub returns-clause-run : goal.returns-clause-run
returns-clause-run c = c.run_on.ensures.run
