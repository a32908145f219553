-- One device that fails the test, or all pass.
use Rattle.std.proofs.Common.{sym, arith, ◌||◌}
use Rattle.vfm_types.specs.Arcs.{is_p2p, is_stopped}
use Rattle.vfm_quiet.specs.Seen.{seen}
use Rattle.vfm_quiet.proofs.AllDevices.{all_pass, one_fails}
use Rattle.vfm_quiet.proofs.devices.are_quiet.Goals as goal

pub returns-then-not-is_quiet : goal.returns-then-not-is_quiet
returns-then-not-is_quiet c =
    sym (one_fails c.args.look.now.count c.loop-d.d (λ d. is_p2p (seen c.args.look.now d).state || is_stopped (seen c.args.look.now d).state) c.loop-d-test.true (sym c.if-not-is_quiet.ensures))

pub returns : goal.returns
returns c =
    sym (all_pass c.args.look.now.count (λ d. is_p2p (seen c.args.look.now d).state || is_stopped (seen c.args.look.now d).state) (λ k below. c.loop-d.invariant k (omega arith)))
