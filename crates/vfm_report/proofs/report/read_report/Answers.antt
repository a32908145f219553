-- A report, or its first bad line.
use Rattle.std.proofs.Common.{ℕ, List, ◌+◌, ◌-◌, length, refl, ap, sym, subst, ◌∙◌}
use Rattle.vfm_report.specs.LineList.{whole_lines, lines_left}
use Rattle.vfm_report.specs.Parts.{parts_of}
use Rattle.vfm_report.specs.Reports.{IsBadLine}
use Rattle.vfm_report.proofs.Whole.{answer-ok, answer-left, answer-bad, left-few, bad-few}
use Rattle.vfm_report.proofs.report.read_report.Goals as goal

pub line_number-requires : goal.line_number-requires
line_number-requires c =
    let h = rw c.of-lines.ensures at c.in-Ok.ensures in
    rw c.rest.ensures (left-few c.args.desc.now c.requires c.args.bytes.now (parts_of c.in-Ok.report) (lines_left c.read_whole.new.lines) h)

pub line_number-requires-in-Err-BadLine : goal.line_number-requires-in-Err-BadLine
line_number-requires-in-Err-BadLine c =
    let h = rw (c.in-Err-BadLine.field-0-is, c.of-lines.ensures) at c.in-Err-BadLine.ensures in
    rw c.rest-in-Err-BadLine.ensures (bad-few c.args.desc.now c.requires c.args.bytes.now (lines_left c.read_whole.new.lines) h)

pub returns-then-is_done : goal.returns-then-is_done
returns-then-is_done c =
    let h = rw c.of-lines.ensures at c.in-Ok.ensures in
    let done = c.if-is_done.ensures.0 refl in
    answer-ok c.args.desc.now c.requires c.args.bytes.now (parts_of c.in-Ok.report) (lines_left c.read_whole.new.lines) h done.0 done.1

pub returns-else-is_done : goal.returns-else-is_done
returns-else-is_done c =
    let h = rw c.of-lines.ensures at c.in-Ok.ensures in
    let k = c.line_number.ensures ∙ ap (λ (r : List ℕ). length (whole_lines c.args.bytes.now) - length (whole_lines r) + 1) c.rest.ensures in
    subst (IsBadLine c.args.desc.now c.args.bytes.now) (sym k)
    (answer-left c.args.desc.now c.requires c.args.bytes.now (parts_of c.in-Ok.report) (lines_left c.read_whole.new.lines) h
    (λ none tail. absurd (let t = c.if-is_done.ensures.1 (none, tail) in cc t)))

pub returns-in-Err-BadLine : goal.returns-in-Err-BadLine
returns-in-Err-BadLine c =
    let h = rw (c.in-Err-BadLine.field-0-is, c.of-lines.ensures) at c.in-Err-BadLine.ensures in
    let k = c.line_number-in-Err-BadLine.ensures ∙ ap (λ (r : List ℕ). length (whole_lines c.args.bytes.now) - length (whole_lines r) + 1) c.rest-in-Err-BadLine.ensures in
    subst (IsBadLine c.args.desc.now c.args.bytes.now) (sym k)
    (answer-bad c.args.desc.now c.requires c.args.bytes.now (lines_left c.read_whole.new.lines) h)
