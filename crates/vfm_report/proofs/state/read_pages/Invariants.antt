-- The pages that are read still come after those that were read.
use Rattle.std.proofs.Common.{◌≡◌, ◌-◌, ◌++◌}
use Rattle.vfm_report.specs.Found.{found_map, one_line, row}
use Rattle.vfm_report.specs.LineList.{lines_left}
use Rattle.vfm_report.specs.Readers.{page_in}
use Rattle.vfm_report.proofs.state.read_pages.Given as goal

abbrev pub invariant-loop-p : goal.invariant-loop-p
invariant-loop-p l =
    row (λ p. one_line (page_in l.desc p)) l.desc.pages 0 (lines_left l.fn.lines) ≡ found_map (λ xs. l.pages.items ++ xs) (row (λ p. one_line (page_in l.desc p)) (l.desc.pages - l.p) l.p (lines_left l.lines))
