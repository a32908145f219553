-- The parts of a report, one after another.
use Rattle.std.proofs.lemmas.Result.{err_from_is_err_and, MatchResult-weaker}
use Rattle.vfm_text.specs.Parts.{made_of}
use Rattle.vfm_text.proofs.PartsInOrder.{source, joint, loaded, destination, final, ending, to_joint, to_loaded, to_destination, to_final}
use Rattle.vfm_text.proofs.report.put_parts.Goals as goal

pub returns-in_err-put_journal_part : goal.returns-in_err-put_journal_part
returns-in_err-put_journal_part g c =
    let p = err_from_is_err_and c.from_residual.result c.from_residual.ensures.1 in
    let writer = g.met.P.TextWriter in
    let made = made_of g.M.MachineView.machine c.args.parts.now in
    rw (p.1) (writer.stop_before _ _ (to_final made) ending (writer.stop_before _ _ (to_destination made) (final made) (writer.stop_before _ _ (to_loaded made) (destination made) (writer.stop_before _ _ (to_joint made) (loaded made) (writer.stop_before _ _ (source made) (joint made) c.in_err-put_journal_part.ensures)))))

pub returns-in_err-put_state_if : goal.returns-in_err-put_state_if
returns-in_err-put_state_if g c =
    let p = err_from_is_err_and c.from_residual-in_err-put_state_if.result c.from_residual-in_err-put_state_if.ensures.1 in
    let writer = g.met.P.TextWriter in
    let made = made_of g.M.MachineView.machine c.args.parts.now in
    rw (p.1) (writer.stop_before _ _ (to_final made) ending (writer.stop_before _ _ (to_destination made) (final made) (writer.stop_before _ _ (to_loaded made) (destination made) (writer.stop_before _ _ (to_joint made) (loaded made) (writer.stop_after _ _ _ (source made) (joint made) c.in_ok-put_journal_part.ensures c.in_err-put_state_if.ensures)))))

pub returns-in_err-put_state_if-2 : goal.returns-in_err-put_state_if-2
returns-in_err-put_state_if-2 g c =
    let p = err_from_is_err_and c.from_residual-in_err-put_state_if-2.result c.from_residual-in_err-put_state_if-2.ensures.1 in
    let writer = g.met.P.TextWriter in
    let made = made_of g.M.MachineView.machine c.args.parts.now in
    rw (p.1) (writer.stop_before _ _ (to_final made) ending (writer.stop_before _ _ (to_destination made) (final made) (writer.stop_before _ _ (to_loaded made) (destination made) (writer.stop_after _ _ _ (to_joint made) (loaded made) (writer.more _ _ _ (source made) (joint made) c.in_ok-put_journal_part.ensures c.in_ok-put_state_if.ensures) c.in_err-put_state_if-2.ensures))))

pub returns-in_err-put_journal_if : goal.returns-in_err-put_journal_if
returns-in_err-put_journal_if g c =
    let p = err_from_is_err_and c.from_residual-in_err-put_journal_if.result c.from_residual-in_err-put_journal_if.ensures.1 in
    let writer = g.met.P.TextWriter in
    let made = made_of g.M.MachineView.machine c.args.parts.now in
    rw (p.1) (writer.stop_before _ _ (to_final made) ending (writer.stop_before _ _ (to_destination made) (final made) (writer.stop_after _ _ _ (to_loaded made) (destination made) (writer.more _ _ _ (to_joint made) (loaded made) (writer.more _ _ _ (source made) (joint made) c.in_ok-put_journal_part.ensures c.in_ok-put_state_if.ensures) c.in_ok-put_state_if-2.ensures) c.in_err-put_journal_if.ensures)))

pub returns-in_err-put_state_if-3 : goal.returns-in_err-put_state_if-3
returns-in_err-put_state_if-3 g c =
    let p = err_from_is_err_and c.from_residual-in_err-put_state_if-3.result c.from_residual-in_err-put_state_if-3.ensures.1 in
    let writer = g.met.P.TextWriter in
    let made = made_of g.M.MachineView.machine c.args.parts.now in
    rw (p.1) (writer.stop_before _ _ (to_final made) ending (writer.stop_after _ _ _ (to_destination made) (final made) (writer.more _ _ _ (to_loaded made) (destination made) (writer.more _ _ _ (to_joint made) (loaded made) (writer.more _ _ _ (source made) (joint made) c.in_ok-put_journal_part.ensures c.in_ok-put_state_if.ensures) c.in_ok-put_state_if-2.ensures) c.in_ok-put_journal_if.ensures) c.in_err-put_state_if-3.ensures))

pub returns : goal.returns
returns g c =
    let writer = g.met.P.TextWriter in
    let made = made_of g.M.MachineView.machine c.args.parts.now in
    let before = (writer.more _ _ _ (to_destination made) (final made) (writer.more _ _ _ (to_loaded made) (destination made) (writer.more _ _ _ (to_joint made) (loaded made) (writer.more _ _ _ (source made) (joint made) c.in_ok-put_journal_part.ensures c.in_ok-put_state_if.ensures) c.in_ok-put_state_if-2.ensures) c.in_ok-put_journal_if.ensures) c.in_ok-put_state_if-3.ensures) in
    MatchResult-weaker c.put_line.result c.put_line.ensures
    (λ _ h. writer.more _ _ _ (to_final made) ending before h)
    (λ _ h. writer.stop_after _ _ _ (to_final made) ending before h)
