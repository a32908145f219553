-- One device that fails the test, or all pass.
use Rattle.std.proofs.Common.{sym, arith}
use Rattle.vfm_types.specs.Paths.{same_state}
use Rattle.vfm_quiet.specs.Seen.{seen}
use Rattle.vfm_quiet.proofs.AllDevices.{all_pass, one_fails}
use Rattle.vfm_quiet.proofs.devices.all_in.Goals as goal

pub returns-then-not-is_in : goal.returns-then-not-is_in
returns-then-not-is_in c =
    sym (one_fails c.args.look.now.count c.loop-d.d (λ d. same_state (seen c.args.look.now d).state c.args.state) c.loop-d-test.true (sym c.if-not-is_in.ensures))

pub returns : goal.returns
returns c =
    sym (all_pass c.args.look.now.count (λ d. same_state (seen c.args.look.now d).state c.args.state) (λ k below. c.loop-d.invariant k (omega arith)))
