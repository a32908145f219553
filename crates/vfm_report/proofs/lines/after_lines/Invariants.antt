-- What stands after the lines that are left stands after all of them.
use Rattle.std.proofs.Common.{◌≡◌, length}
use Rattle.vfm_report.specs.LineList.{after_lines, lines_left}
use Rattle.vfm_report.proofs.lines.after_lines.Given as goal

abbrev pub invariant-loop-after : goal.invariant-loop-after
invariant-loop-after l = after_lines l.lines.rest.now ≡ after_lines l.bytes

abbrev pub decreases-loop-after : goal.decreases-loop-after
decreases-loop-after l = length (lines_left l.lines)
