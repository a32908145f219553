-- The steps of the devices, then what is wanted after them.
use Rattle.std.proofs.Common.{◌≡◌, ◌≤◌, ◌++◌, List, length, ap, sym, subst, ◌∙◌, arith}
use Rattle.std.proofs.lemmas.Bool.{ltb-false}
use Rattle.vfm_types.specs.declared.entry.Entry.{Entry}
use Rattle.vfm_core.specs.CoreState.{CoreState}
use Rattle.vfm_drive.specs.Runs.{GoesOn}
use Rattle.vfm_drive.proofs.Runs.{has_run, then_on}
use Rattle.vfm_drive.proofs.Steps.{want_goes}
use Rattle.vfm_drive.proofs.Still.{end_of}
use Rattle.vfm_dest.specs.Homeward.{GoesHomeward, HasRoom}
use Rattle.vfm_dest.proofs.Going.{all-homeward, then-homeward}
use Rattle.vfm_dest.proofs.homeward.round.Goals as goal

pub step_wanted-requires : goal.step_wanted-requires
step_wanted-requires c = subst HasRoom (sym c.step_devices.ensures.made) (all-homeward c.args.core.now c.requires).has

pub returns-clause-homeward : goal.returns-clause-homeward
returns-clause-homeward c =
    then-homeward c.args.core.now c.step_devices.new.core c.step_wanted.new.core
    (subst (λ (s : CoreState). GoesHomeward c.args.core.now s) (sym c.step_devices.ensures.made) (all-homeward c.args.core.now c.requires))
    c.step_wanted.ensures.homeward

pub returns-clause-at_end : goal.returns-clause-at_end
returns-clause-at_end c = λ none run origin mine is.
    let before : c.len-before.result ≡ length c.args.core.now.entries = c.len-before.ensures ∙ ap (λ (list : List Entry). length list) c.journal.ensures in
    let after : c.len.result ≡ length c.step_wanted.new.core.entries =
    c.len.ensures ∙ ap (λ (list : List Entry). length list) c.journal-2.ensures in
    let short : c.len.result ≤ c.len-before.result = ltb-false c.len-before.result c.len.result none in
    let on = c.step_devices.ensures.goes_on run.origin run.mine run.run in
    end_of c.args.core.now c.step_devices.new.core c.step_wanted.new.core c.step_wanted.result 0 c.requires.kept.fit
    c.step_devices.ensures.made (c.step_wanted.ensures.made (has_run c.args.core.now c.step_devices.new.core run.origin run.mine on))
    c.step_wanted.ensures.order (omega (arith, before, after, short)) origin mine is

pub returns-clause-goes_on : goal.returns-clause-goes_on
returns-clause-goes_on c = λ origin mine run.
    let mid = c.step_devices.new.core in
    let first = c.step_devices.ensures.goes_on origin mine run in
    let has : HasRoom mid = subst HasRoom (sym c.step_devices.ensures.made) (all-homeward c.args.core.now c.requires).has in
    then_on c.args.core.now mid c.step_wanted.new.core origin mine first
    (subst (λ (s : CoreState). GoesOn mid s origin (first.more ++ mine))
    (sym (c.step_wanted.ensures.made (has_run c.args.core.now mid origin mine first)))
    (want_goes mid c.step_wanted.result 0 has.kept.fit origin (first.more ++ mine) first.run (c.step_wanted.ensures.order origin (first.more ++ mine) first.run)))
