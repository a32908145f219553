-- One device that fails the test, or all pass.
use Rattle.std.proofs.Common.{sym, arith}
use Rattle.vfm_quiet.specs.Seen.{sees_warm}
use Rattle.vfm_quiet.proofs.AllDevices.{all_pass, one_fails}
use Rattle.vfm_quiet.proofs.devices.are_warm.Goals as goal

pub returns-then-not-is_warm : goal.returns-then-not-is_warm
returns-then-not-is_warm c =
    sym (one_fails c.args.look.now.count c.loop-d.d (λ d. sees_warm c.args.desc.now c.args.look.now d) c.loop-d-test.true (sym c.if-not-is_warm.ensures))

pub returns : goal.returns
returns c =
    sym (all_pass c.args.look.now.count (λ d. sees_warm c.args.desc.now c.args.look.now d) (λ k below. c.loop-d.invariant k (omega arith)))
