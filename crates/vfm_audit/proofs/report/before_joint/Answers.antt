-- The first Joint, or the end of the list.
use Rattle.std.proofs.Common.{length, sym, ◌∙◌, arith}
use Rattle.std.proofs.lemmas.Bool.{false≢true}
use Rattle.std.proofs.lemmas.List.{take_all}
use Rattle.vfm_audit.proofs.Joints.{is_at, none_at, none_before, none_more, none_stands, stands, stands_at}
use Rattle.vfm_audit.proofs.report.before_joint.Goals as goal

pub returns-then-is_joint-clause-before : goal.returns-then-is_joint-clause-before
returns-then-is_joint-clause-before c =
    stands_at c.args.entries.now c.loop-i.i c.index-entries-i.result c.loop-i-test.true c.loop-i.invariant
    (is_at _ _ _ c.index-entries-i.is (sym c.is_joint.ensures ∙ c.if-is_joint.true))

pub returns-then-is_joint-clause-stands : goal.returns-then-is_joint-clause-stands
returns-then-is_joint-clause-stands c = (
  λ inside. stands c.args.entries.now c.loop-i.i c.index-entries-i.result c.loop-i-test.true
      (is_at _ _ _ c.index-entries-i.is (sym c.is_joint.ensures ∙ c.if-is_joint.true)),
  λ joint. c.loop-i-test.true,
)

pub loop-i-preserved : goal.loop-i-preserved
loop-i-preserved c =
    none_more c.args.entries.now c.loop-i.i c.index-entries-i.result c.loop-i-test.true c.loop-i.invariant
    (is_at _ _ _ c.index-entries-i.is (sym c.is_joint.ensures ∙ c.if-is_joint.false))

pub returns-clause-before : goal.returns-clause-before
returns-clause-before c =
    take_all (length c.args.entries.now) c.args.entries.now (omega arith)
    ∙ none_before c.args.entries.now (none_at c.args.entries.now c.loop-i.i c.loop-i-test.false c.loop-i.invariant)

pub returns-clause-stands : goal.returns-clause-stands
returns-clause-stands c = (
  λ inside. absurd (omega arith),
  λ joint. absurd (false≢true (sym (none_stands c.args.entries.now (none_at c.args.entries.now c.loop-i.i c.loop-i-test.false c.loop-i.invariant)) ∙ joint)),
)
