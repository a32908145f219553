-- The walk goes on by one state while the target isn't reached.
use Rattle.std.proofs.Common.{arith, length-append, sym, ◌∙◌}
use Rattle.vfm_states.proofs.Onward.{step_keeps_path, path_done, whole_at_bound, whole_at_target}
use Rattle.vfm_states.proofs.walk.path.Goals as goal
use Rattle.vfm_states.proofs.walk.path.Goals.{else-loop-step-test, then-loop-step-test+then-number}

pub loop-step-preserved : goal.loop-step-preserved
loop-step-preserved c =
    (rw (c.go_to.ensures, length-append) (omega arith), step_keeps_path c.loop-step.route _ _ c.loop-step._step c.loop-step.state c.walked-state.result c.args.to c.args.flags (omega arith) (λ same. c.if-number.false (c.number.ensures ∙ (same ∙ sym c.number-in-loop-step.ensures))) c.walked-state.ensures c.go_to.ensures c.loop-step.invariant.1)

pub returns-clause-value : goal.returns-clause-value
returns-clause-value c =
    path_done c.args.from c.args.to c.args.flags c.loop-step.route c.in_default.ensures.value (elim c.loop-step-test.branch [
      | else-loop-step-test w ↦ whole_at_bound _ _ c.loop-step._step c.loop-step.state c.args.to c.args.flags (omega arith) c.loop-step.invariant.1
      | then-loop-step-test+then-number w ↦ whole_at_target _ _ c.loop-step._step c.loop-step.state c.args.to c.args.flags (omega arith) (sym w.number.ensures ∙ (w.if-number.true ∙ w.number-in-loop-step.ensures)) c.loop-step.invariant.1
    ])
