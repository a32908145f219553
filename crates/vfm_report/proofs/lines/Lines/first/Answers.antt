-- The first line is what stands before the first line feed.
use Rattle.vfm_report.proofs.LineLists.{whole_lines-none, whole_lines-first, after_lines-none, after_lines-first}
use Rattle.vfm_report.proofs.lines.Lines.first.Goals as goal

pub returns : goal.returns
returns c =
    let first = c.in_ok-line.ensures in
    record {
      lines = whole_lines-first c.args.self.rest.now c.in_ok-line.line.now c.in_ok-line.rest.now first.0 first.1;
      clean = first.0;
      after = after_lines-first c.args.self.rest.now c.in_ok-line.line.now c.in_ok-line.rest.now first.0 first.1;
    }

pub returns-in_err-line : goal.returns-in_err-line
returns-in_err-line c =
    rw c.from_residual.ensures (record {
      lines = whole_lines-none c.args.self.rest.now c.in_err-line.ensures;
      clean = tt;
      after = after_lines-none c.args.self.rest.now c.in_err-line.ensures;
    })
