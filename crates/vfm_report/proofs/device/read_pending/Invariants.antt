-- The requests that are read still come after those that were read.
use Rattle.std.proofs.Common.{◌≡◌, ◌++◌, length}
use Rattle.vfm_report.specs.Found.{found_map, many_lines}
use Rattle.vfm_report.specs.LineList.{lines_left}
use Rattle.vfm_report.specs.Readers.{pending_in}
use Rattle.vfm_report.proofs.device.read_pending.Given as goal

abbrev pub invariant-loop-request : goal.invariant-loop-request
invariant-loop-request l =
    many_lines (pending_in l.desc l.d) (lines_left l.fn.lines) ≡ found_map (λ xs. l.list.items ++ xs) (many_lines (pending_in l.desc l.d) (lines_left l.lines))

abbrev pub decreases-loop-request : goal.decreases-loop-request
decreases-loop-request l = length (lines_left l.lines)
