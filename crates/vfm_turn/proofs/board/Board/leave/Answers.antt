use Rattle.std.proofs.Common.{◌≡◌, ℕ, ◌+◌, ◌-◌, ◌<◌, map, sym, ap, ◌∙◌, subst, arith, Some, None}
use Rattle.std.specs.List.{remove}
use Rattle.vfm_turn.specs.declared.seen.View.{View}
use Rattle.vfm_turn.specs.Log.{Each}
use Rattle.vfm_turn.specs.Rule.{stands_in}
use Rattle.vfm_turn.specs.Order.{are_once, are_below, held_cell, stand_cell, empty_slot}
use Rattle.vfm_turn.proofs.Keeps.{leaves}
use Rattle.vfm_turn.proofs.Tickets.{below_has, held_has, held_stands, settled_each, cells_left, once_without, below_without}
use Rattle.vfm_turn.proofs.Calls.{first_slot, seen_left, brought, gave_home, others_left, back_in_order, left_view}
use Rattle.vfm_turn.proofs.board.Board.leave.Goals as goal

pub place_of-i-requires : goal.place_of-i-requires
place_of-i-requires g c = let t = c.args.t.now in sym (held_has g.T.Kept.state c.args.cell t.seat.me.0.holds t.order.items t.in_order) ∙ c.requires.held

pub exchange-requires : goal.exchange-requires
exchange-requires g c = let t = c.args.t.now in let cell = c.args.cell in
    let there = sym (held_has g.T.Kept.state cell t.seat.me.0.holds t.order.items t.in_order) ∙ c.requires.held in
    let slots = brought cell c.place_of-i.result t.order.items t.seat.me c.turn_by.new.seat.me t.out there c.place_of-i.ensures.place c.turn_by.ensures.turned in
    (c.turn_by.ensures.same.0 ∙ c.requires.ticket.0, (None, first_slot cell None c.turn_by.new.seat.me.1 _ slots))

pub store-requires : goal.store-requires
store-requires g c = let t = c.args.t.now in let b = c.args.self.now in let cell = c.args.cell in let state = g.T.Kept.state in
    let there = sym (held_has state cell t.seat.me.0.holds t.order.items t.in_order) ∙ c.requires.held in
    let lt : cell < b.table.shared.table_id.slots = subst (λ (n : ℕ). cell < n) (ap (λ id. id.slots) c.requires.ticket.0) (below_has t.seat.table_id.slots cell (map held_cell t.order.items) t.inside there) in
    let view : c.exchange.new.seat.me.0 ≡ t.seat.me.0 = ap (λ m. m.0) c.exchange.ensures.3 ∙ ap (λ m. m.0) c.turn_by.ensures.turned in
    let first = first_slot cell (Some c.args.value) c.exchange.new.seat.me.1 _ (ap (λ m. m.1) c.exchange.ensures.3) in
    let settled = settled_each state cell (state c.args.value) t.seat.me.0.holds t.order.items t.in_order c.requires.settled in (
      c.exchange.ensures.0 ∙ (c.turn_by.ensures.same.0 ∙ c.requires.ticket.0),
      (let a : b.table.shared.table_id.words ≡ b.table.shared.table_id.slots + 1 = b.words in omega arith),
      leaves state g.T.Kept.fits b.table.shared.key _ _ cell c.exchange.new.seat.me c.args.value first (ap (λ v. v.live) view ∙ t.live)
          (ap (λ v. stands_in cell v.holds) view ∙ (sym (held_stands state cell t.seat.me.0.holds t.order.items t.in_order) ∙ c.requires.held))
          (subst (λ (v : View g.row.T-State.Denot). Each (λ q. q.cell ≡ cell → q.state ≡ state c.args.value) v.holds) (sym view) settled) c.requires.fits,
    )

pub turn_by-requires-2 : goal.turn_by-requires-2
turn_by-requires-2 g c = let t = c.args.t.now in let cell = c.args.cell in let i = c.place_of-i.result in
    let there = sym (held_has g.T.Kept.state cell t.seat.me.0.holds t.order.items t.in_order) ∙ c.requires.held in
    let slots = brought cell i t.order.items t.seat.me c.turn_by.new.seat.me t.out there c.place_of-i.ensures.place c.turn_by.ensures.turned in
    let home = gave_home cell i c.args.value t.seat.me c.turn_by.new.seat.me c.exchange.new.seat.me c.store.new.seat.me slots c.exchange.ensures.3 c.store.ensures.2.0 in
    let lt : i < c.len.result = subst (λ (n : ℕ). i < n) (sym c.len.ensures) c.place_of-i.ensures.inside in
    (others_left i c.len.result t.order.items t.seat.me c.store.new.seat.me t.out (c.len.ensures ∙ t.order.ok.0) lt home).1

pub invariant_of-t-clause-out : goal.invariant_of-t-clause-out
invariant_of-t-clause-out g c = let t = c.args.t.now in let cell = c.args.cell in let i = c.place_of-i.result in
    let there = sym (held_has g.T.Kept.state cell t.seat.me.0.holds t.order.items t.in_order) ∙ c.requires.held in
    let slots = brought cell i t.order.items t.seat.me c.turn_by.new.seat.me t.out there c.place_of-i.ensures.place c.turn_by.ensures.turned in
    let home = gave_home cell i c.args.value t.seat.me c.turn_by.new.seat.me c.exchange.new.seat.me c.store.new.seat.me slots c.exchange.ensures.3 c.store.ensures.2.0 in
    let lt : i < c.len.result = subst (λ (n : ℕ). i < n) (sym c.len.ensures) c.place_of-i.ensures.inside in
    let count = (others_left i c.len.result t.order.items t.seat.me c.store.new.seat.me t.out (c.len.ensures ∙ t.order.ok.0) lt home).0 in
    back_in_order i (c.len.result - i - 1) t.order.items t.seat.me c.store.new.seat.me c.turn_by-2.new.seat.me t.out count home c.turn_by-2.ensures.turned ∙ ap (map empty_slot) (sym c.remove.ensures.items)

pub invariant_of-t-clause-in_order : goal.invariant_of-t-clause-in_order
invariant_of-t-clause-in_order g c = let t = c.args.t.now in let cell = c.args.cell in let items = t.order.items in
    let there = sym (held_has g.T.Kept.state cell t.seat.me.0.holds items t.in_order) ∙ c.requires.held in
    let view = left_view cell _ _ _ t.seat.me c.turn_by.new.seat.me c.exchange.new.seat.me c.store.new.seat.me c.turn_by-2.new.seat.me c.turn_by.ensures.turned c.exchange.ensures.3 c.store.ensures.2.1 c.turn_by-2.ensures.turned in
    ap (λ v. map stand_cell v.holds) view ∙ (cells_left g.T.Kept.state cell t.seat.me.0.holds items t.in_order t.once there ∙ ap (map held_cell) (ap (remove items) (sym c.place_of-i.ensures.place) ∙ sym c.remove.ensures.items))

pub invariant_of-t-clause-once : goal.invariant_of-t-clause-once
invariant_of-t-clause-once g c = let t = c.args.t.now in let cell = c.args.cell in let items = t.order.items in
    let there = sym (held_has g.T.Kept.state cell t.seat.me.0.holds items t.in_order) ∙ c.requires.held in
    let cells = cells_left g.T.Kept.state cell t.seat.me.0.holds items t.in_order t.once there ∙ ap (map held_cell) (ap (remove items) (sym c.place_of-i.ensures.place) ∙ sym c.remove.ensures.items) in
    ap are_once (sym cells) ∙ once_without cell t.seat.me.0.holds (ap are_once t.in_order ∙ t.once)

pub invariant_of-t-clause-inside : goal.invariant_of-t-clause-inside
invariant_of-t-clause-inside g c = let t = c.args.t.now in let cell = c.args.cell in let items = t.order.items in
    let there = sym (held_has g.T.Kept.state cell t.seat.me.0.holds items t.in_order) ∙ c.requires.held in
    let same : c.turn_by-2.new.seat.table_id ≡ t.seat.table_id = c.turn_by-2.ensures.same.0 ∙ (c.store.ensures.0 ∙ (c.exchange.ensures.0 ∙ c.turn_by.ensures.same.0)) in
    let cells = cells_left g.T.Kept.state cell t.seat.me.0.holds items t.in_order t.once there ∙ ap (map held_cell) (ap (remove items) (sym c.place_of-i.ensures.place) ∙ sym c.remove.ensures.items) in
    ap (λ id. are_below id.slots (map held_cell c.remove.new.self.items)) same
    ∙ (ap (are_below t.seat.table_id.slots) (sym cells) ∙ below_without t.seat.table_id.slots cell t.seat.me.0.holds (ap (are_below t.seat.table_id.slots) t.in_order ∙ t.inside))

pub returns-clause-seen : goal.returns-clause-seen
returns-clause-seen g c = let t = c.args.t.now in let cell = c.args.cell in let items = t.order.items in
    let there = sym (held_has g.T.Kept.state cell t.seat.me.0.holds items t.in_order) ∙ c.requires.held in
    let view = left_view cell _ _ _ t.seat.me c.turn_by.new.seat.me c.exchange.new.seat.me c.store.new.seat.me c.turn_by-2.new.seat.me c.turn_by.ensures.turned c.exchange.ensures.3 c.store.ensures.2.1 c.turn_by-2.ensures.turned in
    seen_left g.T.Kept.state cell t.seat.me.0 c.turn_by-2.new.seat.me.0 items c.remove.new.self.items view (c.remove.ensures.items ∙ ap (remove items) c.place_of-i.ensures.place) t.in_order t.once there
