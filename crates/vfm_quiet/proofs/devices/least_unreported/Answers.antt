-- The first device that hasn't reported is the least one, and where all have there is none.
use Rattle.std.proofs.Common.{sym, ap, not, arith}
use Rattle.vfm_quiet.specs.Seen.{sees_reported}
use Rattle.vfm_base.proofs.LeastPages.{least_below_found, least_below_none}
use Rattle.vfm_quiet.proofs.devices.least_unreported.Goals as goal

pub returns-then-not-has_reported-clause-value : goal.returns-then-not-has_reported-clause-value
returns-then-not-has_reported-clause-value c =
    sym (least_below_found (λ d. not (sees_reported c.args.look.now d)) c.args.look.now.count c.loop-d.d (omega arith)
    (ap not (sym c.if-not-has_reported.ensures)) (λ k below. ap not (c.loop-d.invariant k below)))

pub returns-clause-value : goal.returns-clause-value
returns-clause-value c =
    sym (least_below_none (λ d. not (sees_reported c.args.look.now d)) c.args.look.now.count (λ k below. ap not (c.loop-d.invariant k (omega arith))))
