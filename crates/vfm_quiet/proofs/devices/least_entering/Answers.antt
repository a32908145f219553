-- The first device that passes is the least one, and where none passes there is none.
use Rattle.std.proofs.Common.{sym, arith}
use Rattle.vfm_quiet.specs.Seen.{may_enter_pre_copy}
use Rattle.vfm_base.proofs.LeastPages.{least_below_found, least_below_none}
use Rattle.vfm_quiet.proofs.devices.least_entering.Goals as goal

pub returns-then-may_enter_pre_copy-clause-value : goal.returns-then-may_enter_pre_copy-clause-value
returns-then-may_enter_pre_copy-clause-value c =
    sym (least_below_found (λ d. may_enter_pre_copy c.args.desc.now c.args.look.now d) c.args.look.now.count c.loop-d.d (omega arith) (sym c.if-may_enter_pre_copy.ensures) c.loop-d.invariant)

pub returns-clause-value : goal.returns-clause-value
returns-clause-value c =
    sym (least_below_none (λ d. may_enter_pre_copy c.args.desc.now c.args.look.now d) c.args.look.now.count (λ k below. c.loop-d.invariant k (omega arith)))
