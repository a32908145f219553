-- The lines counted and those that are left are all lines.
use Rattle.std.proofs.Common.{◌≡◌, ◌+◌, length}
use Rattle.vfm_report.specs.LineList.{whole_lines, lines_left}
use Rattle.vfm_report.proofs.lines.count_lines.Given as goal

abbrev pub invariant-loop-count : goal.invariant-loop-count
invariant-loop-count l = l.count + length (lines_left l.lines) ≡ length (whole_lines l.bytes)
