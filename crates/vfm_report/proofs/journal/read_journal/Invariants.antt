-- The entries that are read still come after those that were read.
use Rattle.std.proofs.Common.{◌≡◌, ◌++◌, length}
use Rattle.vfm_report.specs.Found.{found_map, many_lines}
use Rattle.vfm_report.specs.LineList.{lines_left}
use Rattle.vfm_report.specs.Readers.{entry_in}
use Rattle.vfm_report.proofs.journal.read_journal.Given as goal

abbrev pub invariant-loop-entry : goal.invariant-loop-entry
invariant-loop-entry l =
    many_lines (entry_in l.desc) (lines_left l.fn.lines) ≡ found_map (λ xs. l.journal.entries ++ xs) (many_lines (entry_in l.desc) (lines_left l.lines))

abbrev pub decreases-loop-entry : goal.decreases-loop-entry
decreases-loop-entry l = length (lines_left l.lines)
