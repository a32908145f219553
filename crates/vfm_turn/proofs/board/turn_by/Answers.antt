use Rattle.std.proofs.Common.{ℕ, List, sym, ap, ◌∙◌, refl, arith, append-nil}
use Rattle.atomic_table.specs.Table.{turned}
use Rattle.vfm_turn.proofs.Lists.{turned_more}
use Rattle.vfm_turn.proofs.board.turn_by.Goals as goal

pub loop-i-init : goal.loop-i-init
loop-i-init g c = (refl, refl, ap (λ (ys : List (ℕ × g.row.S.Denot)). (c.args.seat.now.me.0, ys)) (sym (append-nil c.args.seat.now.me.1)))

pub loop-i-preserved : goal.loop-i-preserved
loop-i-preserved g c = let t = c.turn.ensures in let v = c.loop-i.invariant in let first = c.args.seat.now.me.0 in (
  t.0 ∙ v.0,
  t.1 ∙ v.1,
  t.2 ∙ (ap (λ (m : g.row.V.Denot × List (ℕ × g.row.S.Denot)). (m.0, turned m.1)) v.2 ∙ ap (λ (ys : List (ℕ × g.row.S.Denot)). (first, ys)) (turned_more c.args.seat.now.me.1 c.loop-i._i (omega arith))),
)
