use Rattle.std.proofs.Common.{◌≡◌, ◌/◌}
use Rattle.vfm_base.specs.PageSet.{contains_page, pages_where}
use Rattle.vfm_space.proofs.Marks.{marked_before}
use Rattle.vfm_space.proofs.bar.mark_touched.Given as goal

abbrev pub invariant-loop-b : goal.invariant-loop-b
invariant-loop-b l =
    l.dirty ≡ pages_where (marked_before (contains_page l.fn.dirty) (contains_page l.unread) (l.offset / 64) l.b)
