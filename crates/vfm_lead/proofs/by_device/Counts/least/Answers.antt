-- The first device that has some is the least one, and where none has there is none.
use Rattle.std.proofs.Common.{nat_lt, slice_index_or, sym, arith, lt-ltb}
use Rattle.vfm_base.proofs.LeastPages.{least_below_found, least_below_none}
use Rattle.vfm_lead.proofs.by_device.Counts.least.Goals as goal

pub returns-then-at-gt0-clause-value : goal.returns-then-at-gt0-clause-value
returns-then-at-gt0-clause-value c =
    let some = lt-ltb 0 (slice_index_or c.args.self.now c.loop-d.d 0) (omega arith) in
    sym (least_below_found (λ d. nat_lt 0 (slice_index_or c.args.self.now d 0)) _ c.loop-d.d (omega arith) some c.loop-d.invariant)

pub returns-clause-value : goal.returns-clause-value
returns-clause-value c =
    sym (least_below_none (λ d. nat_lt 0 (slice_index_or c.args.self.now d 0)) _ (λ k below. c.loop-d.invariant k (omega arith)))
