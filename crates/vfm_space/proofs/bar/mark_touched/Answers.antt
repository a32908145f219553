use Rattle.std.proofs.Common.{◌/◌, sym, ◌∙◌}
use Rattle.vfm_base.proofs.NumbersWhere.{IsPageList-pages_where}
use Rattle.vfm_space.proofs.Marks.{marked_with, marked_without}
use Rattle.vfm_space.proofs.bar.mark_touched.Goals as goal
use Rattle.vfm_space.proofs.bar.mark_touched.Goals.{then-not-has, else-not-has}

-- src/bar.rt:144:5
pub loop-b-preserved : goal.loop-b-preserved
loop-b-preserved c = elim c.if-not-has.branch [
  | then-not-has w ↦ rw (w.dirty-is, w.add.ensures.value)
      (marked_with c.loop-b.dirty c.args.dirty.now c.args.unread.now (c.args.offset / 64) c.loop-b.b c.loop-b.auto.b (sym c.has.ensures.value ∙ w.if-not-has.true) c.loop-b.invariant)
  | else-not-has w ↦ rw w.dirty-is
      (marked_without c.loop-b.dirty c.args.dirty.now c.args.unread.now (c.args.offset / 64) c.loop-b.b (sym c.has.ensures.value ∙ w.if-not-has.false) c.loop-b.invariant)
]

-- src/bar.rt:137:1
pub returns-clause-set : goal.returns-clause-set
returns-clause-set c = rw c.loop-b.invariant (IsPageList-pages_where _)
