-- Where the journal is as long as before, no device had a step.
use Rattle.std.proofs.Common.{◌≡◌, ◌≤◌, List, length, ap, ◌∙◌, arith}
use Rattle.std.proofs.lemmas.Bool.{ltb-false}
use Rattle.vfm_types.specs.declared.entry.Entry.{Entry}
use Rattle.vfm_types.specs.Desc.{device_count}
use Rattle.vfm_core.specs.CoreState.{CoreState}
use Rattle.vfm_drive.specs.Rounds.{all_stepped}
use Rattle.vfm_drive.proofs.Steps.{all_on, none_still, unmoved}
use Rattle.vfm_drive.proofs.rounds.step_devices.Goals as goal

pub returns-clause-still : goal.returns-clause-still
returns-clause-still c = λ none.
    let before : c.len-before.result ≡ length c.args.core.now.entries = c.len-before.ensures ∙ ap (λ (list : List Entry). length list) c.journal.ensures in
    let after : c.len.result ≡ length (all_stepped c.args.core.now).entries =
    c.len.ensures ∙ ap (λ (list : List Entry). length list) c.journal-2.ensures ∙ ap (λ (s : CoreState). length s.entries) c.step_each.ensures in
    let short : c.len.result ≤ c.len-before.result = ltb-false c.len-before.result c.len.result none in
    none_still c.args.core.now c.fits.ensures
    (unmoved (device_count c.args.core.now.desc) c.args.core.now (omega (arith, before, after, short))).none

pub returns-clause-goes_on : goal.returns-clause-goes_on
returns-clause-goes_on c = rw c.step_each.ensures (all_on c.args.core.now c.fits.ensures)
