-- The entries so far are written.
use Rattle.std.proofs.Common.{take}
use Rattle.vfm_plain.specs.EntryText.{journal_text}
use Rattle.vfm_text.proofs.entry.put_journal.Given as goal

abbrev pub invariant-loop-entry : goal.invariant-loop-entry
invariant-loop-entry g l = g.P.TextWriter.takes l.fn.writer l.writer (journal_text (take l.entry-index l.entry-items))
