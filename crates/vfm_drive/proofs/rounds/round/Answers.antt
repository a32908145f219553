-- The steps of the devices, then what is wanted after them.
use Rattle.std.proofs.Common.{◌≡◌, ◌≤◌, ◌++◌, List, length, ap, ◌∙◌, arith}
use Rattle.std.proofs.lemmas.Bool.{ltb-false}
use Rattle.vfm_types.specs.declared.entry.Entry.{Entry}
use Rattle.vfm_drive.proofs.Runs.{has_run, then_on}
use Rattle.vfm_drive.proofs.Still.{end_of, round_is}
use Rattle.vfm_drive.proofs.rounds.round.Goals as goal

pub step_wanted-requires : goal.step_wanted-requires
step_wanted-requires c =
    let on = c.step_devices.ensures.goes_on c.requires.origin c.requires.mine c.requires.run in
    record { origin = c.requires.origin; mine = on.more ++ c.requires.mine; run = on.run }

pub returns-clause-round : goal.returns-clause-round
returns-clause-round c =
    round_is c.args.core.now c.step_devices.new.core c.step_wanted.new.core c.step_wanted.result c.args.abort_after
    c.step_devices.ensures.made c.step_wanted.ensures.made c.step_wanted.ensures.order

pub returns-clause-at_end : goal.returns-clause-at_end
returns-clause-at_end c = λ none.
    let before : c.len-before.result ≡ length c.args.core.now.entries = c.len-before.ensures ∙ ap (λ (list : List Entry). length list) c.journal.ensures in
    let after : c.len.result ≡ length c.step_wanted.new.core.entries =
    c.len.ensures ∙ ap (λ (list : List Entry). length list) c.journal-2.ensures in
    let short : c.len.result ≤ c.len-before.result = ltb-false c.len-before.result c.len.result none in
    end_of c.args.core.now c.step_devices.new.core c.step_wanted.new.core c.step_wanted.result c.args.abort_after c.fits.ensures
    c.step_devices.ensures.made c.step_wanted.ensures.made c.step_wanted.ensures.order (omega (arith, before, after, short))

pub returns-clause-goes_on : goal.returns-clause-goes_on
returns-clause-goes_on c = λ origin mine run.
    let first = c.step_devices.ensures.goes_on origin mine run in
    then_on c.args.core.now c.step_devices.new.core c.step_wanted.new.core origin mine first
    (c.step_wanted.ensures.goes_on origin (first.more ++ mine) first.run)

pub returns-clause-run : goal.returns-clause-run
returns-clause-run c =
    has_run c.args.core.now c.step_wanted.new.core c.requires.origin c.requires.mine
    (returns-clause-goes_on c c.requires.origin c.requires.mine c.requires.run)
