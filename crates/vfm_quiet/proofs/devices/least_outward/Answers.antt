-- The first device that passes is the least one, and where none passes there is none.
use Rattle.std.proofs.Common.{sym, arith}
use Rattle.vfm_quiet.specs.Seen.{may_go_out}
use Rattle.vfm_base.proofs.LeastPages.{least_below_found, least_below_none}
use Rattle.vfm_quiet.proofs.devices.least_outward.Goals as goal

pub returns-then-may_go_out-clause-value : goal.returns-then-may_go_out-clause-value
returns-then-may_go_out-clause-value c =
    sym (least_below_found (λ d. may_go_out c.args.look.now d) c.args.look.now.count c.loop-d.d (omega arith) (sym c.if-may_go_out.ensures) c.loop-d.invariant)

pub returns-clause-value : goal.returns-clause-value
returns-clause-value c =
    sym (least_below_none (λ d. may_go_out c.args.look.now d) c.args.look.now.count (λ k below. c.loop-d.invariant k (omega arith)))
