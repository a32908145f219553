-- There are no more lines than bytes.
use Rattle.std.proofs.Common.{arith}
use Rattle.vfm_report.proofs.Whole.{few-lines}
use Rattle.vfm_report.proofs.lines.count_lines.Goals as goal

pub returns-clause-value : goal.returns-clause-value
returns-clause-value c = omega (arith, c.loop-count.invariant, few-lines c.args.bytes.now, c.loop-count-test.false)
