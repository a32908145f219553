use Rattle.std.proofs.Common.{◌≡◌, take, sum_by}
use Rattle.vfm_outside.specs.Counts.{counted}
use Rattle.vfm_outside.proofs.faults.row_faults.Given as goal

abbrev pub invariant-loop-link : goal.invariant-loop-link
invariant-loop-link g l = l.faults ≡ counted (sum_by g.L.Counting.faults (take l.link-index l.links))
