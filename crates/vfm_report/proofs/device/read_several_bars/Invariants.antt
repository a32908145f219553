-- The BARs that are read still come after those that were read.
use Rattle.std.proofs.Common.{◌≡◌, ◌++◌, drop}
use Rattle.vfm_report.specs.Found.{found_map}
use Rattle.vfm_report.specs.LineList.{lines_left}
use Rattle.vfm_report.specs.Readers.{numbered_bars}
use Rattle.vfm_report.proofs.device.read_several_bars.Given as goal

abbrev pub invariant-loop-k : goal.invariant-loop-k
invariant-loop-k l =
    numbered_bars l.d 0 l.sizes (lines_left l.fn.lines) ≡ found_map (λ b. l.bytes.items ++ b) (numbered_bars l.d l.k (drop l.k l.sizes) (lines_left l.lines))
