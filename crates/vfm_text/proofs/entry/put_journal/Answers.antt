-- An entry that stops the writer stops the journal.
use Rattle.std.proofs.Common.{arith}
use Rattle.std.proofs.lemmas.Result.{err_from_is_err_and}
use Rattle.vfm_plain.specs.EntryText.{entry_line}
use Rattle.vfm_text.proofs.Parts.{parts}
use Rattle.vfm_text.proofs.entry.put_journal.Goals as goal

pub returns-in_err-put_entry : goal.returns-in_err-put_entry
returns-in_err-put_entry g c =
    let p = err_from_is_err_and c.from_residual.result c.from_residual.ensures.1 in
    let writer = g.met.P.TextWriter in
    rw (p.1, ← c.as_slice-entry-items.ensures, parts entry_line c.as_slice-entry-items.result.now c.loop-entry.entry-index c.entry-item.result (omega arith), ← c.entry-item.is) (
    writer.stop_before _ _ _ _ (writer.stop_after _ _ _ _ _ c.loop-entry.invariant c.in_err-put_entry.ensures)
    )
