-- With Resume the run goes on to its end.
use Rattle.std.proofs.Common.{◌≡◌, [], ◌∷◌, ◌++◌, Some, refl, sym, subst}
use Rattle.vfm_types.specs.declared.entry.Entry.TheVariants.{Resume}
use Rattle.vfm_core.specs.CoreState.{CoreState}
use Rattle.vfm_drive.specs.Rounds.{ByRounds, with_made}
use Rattle.vfm_drive.specs.Runs.{GoesOn, HasRun, IsOn}
use Rattle.vfm_drive.proofs.Ends.{resume_fine, resume_run, taken_over}
use Rattle.vfm_dest.proofs.homeward.take_over.Goals as goal

pub returns : goal.returns
returns c = λ before staged may.
    let old = c.args.core.now in
    let fit = c.requires.kept.fit in
    let made : c.make_allowed.new.core ≡ with_made (Some Resume) old = c.make_allowed.ensures.made refl (resume_fine old fit before staged may) in
    let run : IsOn c.make_allowed.new.core.desc (Some before) (Resume ∷ []) c.make_allowed.new.core.world =
    subst (λ (s : CoreState). IsOn s.desc (Some before) (Resume ∷ []) s.world) (sym made) (resume_run old fit before staged may) in
    let has : HasRun c.make_allowed.new.core.desc c.make_allowed.new.core.world =
    record { origin = Some before; mine = Resume ∷ []; run = run } in
    let on : GoesOn (with_made (Some Resume) old) c.run_home.new.core (Some before) (Resume ∷ []) =
    subst (λ (s : CoreState). GoesOn s c.run_home.new.core (Some before) (Resume ∷ [])) made
    (c.run_home.ensures.goes_on (Some before) (Resume ∷ []) run) in
    taken_over old fit before staged may c.run_home.new.core on
    (c.run_home.ensures.at_end has (Some before) (on.more ++ Resume ∷ []) on.run)
    (subst (λ (s : CoreState). ByRounds s c.run_home.new.core 0) made (c.run_home.ensures.rounds has))
