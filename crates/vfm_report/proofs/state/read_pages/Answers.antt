-- One of a row more, or a bad line.
use Rattle.std.proofs.Common.{ℕ, ◌+◌, ◌-◌, List, ◌++◌, ◌∙◌, ap, sym}
use Rattle.std.proofs.lemmas.Result.{err_from_is_err_and}
use Rattle.vfm_report.specs.LineList.{lines_left}
use Rattle.vfm_report.specs.Found.{found_map, one_line, row}
use Rattle.vfm_report.specs.Readers.{page_in}
use Rattle.vfm_report.proofs.Steps.{row-step, row-stop, stops}
use Rattle.vfm_report.proofs.state.read_pages.Goals as goal

pub returns-in_err-page : goal.returns-in_err-page
returns-in_err-page c =
    let p = err_from_is_err_and c.from_residual.result c.from_residual.ensures.1 in
    let D = c.args.desc.now in
    let reader = λ (p : ℕ). one_line (page_in D p) in
    rw (p.1, p.2) (stops (λ (x : List ℕ). x) (λ (xs : List (List ℕ)). xs) c.in_err-page.field-0.0 (lines_left c.read_page.new.lines) (reader c.loop-p.p (lines_left c.loop-p.lines)) _ c.in_err-page.ensures (λ bad.
    c.loop-p.invariant ∙ row-stop reader (D.pages) c.loop-p.p c.loop-p.pages.items (lines_left c.loop-p.lines) (lines_left c.read_page.new.lines) c.loop-p-test.true bad))

pub loop-p-preserved : goal.loop-p-preserved
loop-p-preserved c =
    let D = c.args.desc.now in
    let reader = λ (p : ℕ). one_line (page_in D p) in
    let more = rw c.if-is_err.ensures.negation at c.push.ensures.items in
    c.loop-p.invariant
    ∙ row-step reader (D.pages) c.loop-p.p c.loop-p.pages.items (lines_left c.loop-p.lines) (lines_left c.read_page.new.lines) c.in_ok-page.page c.loop-p-test.true c.in_ok-page.ensures
    ∙ ap (λ (items : List (List ℕ)). found_map (λ zs. items ++ zs) (row reader (D.pages - (c.loop-p.p + 1)) (c.loop-p.p + 1) (lines_left c.read_page.new.lines))) (sym more)
