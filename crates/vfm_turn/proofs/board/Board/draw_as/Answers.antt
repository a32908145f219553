use Rattle.std.proofs.Common.{◌≡◌, ◌+◌, List, map, sym, ap, ◌∙◌, subst, arith}
use Rattle.vfm_types.specs.declared.entry.Entry.{Entry}
use Rattle.vfm_turn.specs.declared.seen.Touch.{Touch}
use Rattle.vfm_turn.specs.Seen.{touches_in}
use Rattle.vfm_turn.specs.Order.{stand_cell, held_cell, are_below}
use Rattle.vfm_turn.specs.Steps.{view_drew}
use Rattle.vfm_turn.specs.Words.{holds_from}
use Rattle.vfm_turn.proofs.Keeps.{draws, IsFrom}
use Rattle.vfm_turn.proofs.Tickets.{touches_from, after_cells}
use Rattle.vfm_turn.proofs.Calls.{seen_drew}
use Rattle.vfm_turn.proofs.board.Board.draw_as.Goals as goal

pub fetch_add-requires : goal.fetch_add-requires
fetch_add-requires g c = let t = c.args.t.now in let b = c.args.self.now in let state = g.T.Kept.state in
    let from = subst (λ (ts : List (Touch g.row.T-State.Denot)). IsFrom t.seat.me.0.holds ts) (sym c.requires.said.1) (touches_from state c.args._cells.now t.seat.me.0.holds t.order.items) in (
      c.requires.ticket.0,
      (let a : b.table.shared.table_id.words ≡ b.table.shared.table_id.slots + 1 = b.words in omega arith),
      draws state g.T.Kept.fits b.table.shared.key _ _ t.seat.me g.J.Drawing.entry g.J.Drawing.touches t.live from c.requires.few,
    )

pub invariant_of-t-clause-in_order : goal.invariant_of-t-clause-in_order
invariant_of-t-clause-in_order g c = let t = c.args.t.now in
    ap (λ v. map stand_cell v.holds) c.fetch_add.ensures.2.1 ∙ (after_cells g.J.Drawing.touches t.seat.me.0.holds ∙ t.in_order)

pub invariant_of-t-clause-inside : goal.invariant_of-t-clause-inside
invariant_of-t-clause-inside g c = let t = c.args.t.now in ap (λ id. are_below id.slots (map held_cell t.order.items)) c.fetch_add.ensures.0 ∙ t.inside

pub returns-clause-seen : goal.returns-clause-seen
returns-clause-seen g c = let t = c.args.t.now in let state = g.T.Kept.state in
    seen_drew state c.fetch_add.result t.number c.args._e (touches_in c.args._cells.now (holds_from state t.seat.me.0.holds t.order.items)) t.seat.me.0 c.fetch_add.new.seat.me.0 t.order.items
    (c.fetch_add.ensures.2.1 ∙ (ap (λ (e : Entry). view_drew c.fetch_add.result e g.J.Drawing.touches t.seat.me.0) c.requires.said.0
    ∙ ap (λ (ts : List (Touch g.row.T-State.Denot)). view_drew c.fetch_add.result c.args._e ts t.seat.me.0) c.requires.said.1)) t.numbered
