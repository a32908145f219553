use Rattle.std.proofs.Common.{ℕ, map, set, sym, refl, ap, ◌∙◌, None}
use Rattle.vfm_turn.specs.declared.seen.Held.{Held}
use Rattle.vfm_turn.specs.Order.{are_once, are_below, held_cell, empty_slot}
use Rattle.vfm_turn.proofs.Tickets.{held_has}
use Rattle.vfm_turn.proofs.Calls.{seen_shown, same_set}
use Rattle.vfm_turn.proofs.board.Board.show.Goals as goal

pub place_of-i-requires : goal.place_of-i-requires
place_of-i-requires g c = let t = c.args.t.now in sym (held_has g.T.Kept.state c.args.cell t.seat.me.0.holds t.order.items t.in_order) ∙ c.requires.held

pub invariant_of-t-clause-out : goal.invariant_of-t-clause-out
invariant_of-t-clause-out g c = let t = c.args.t.now in let cell = c.args.cell in let h : Held g.row.T.Denot = record { cell = cell; shown = c.of.result } in
    let there = sym (held_has g.T.Kept.state cell t.seat.me.0.holds t.order.items t.in_order) ∙ c.requires.held in
    t.out ∙ sym (ap (λ (i : ℕ). map empty_slot (set t.order.items i h)) c.place_of-i.ensures.place ∙ same_set empty_slot cell h t.order.items (λ x e. ap (λ (j : ℕ). (j, None)) (sym e)) there)

pub invariant_of-t-clause-in_order : goal.invariant_of-t-clause-in_order
invariant_of-t-clause-in_order g c = let t = c.args.t.now in let cell = c.args.cell in let h : Held g.row.T.Denot = record { cell = cell; shown = c.of.result } in
    let there = sym (held_has g.T.Kept.state cell t.seat.me.0.holds t.order.items t.in_order) ∙ c.requires.held in
    t.in_order ∙ sym (ap (λ (i : ℕ). map held_cell (set t.order.items i h)) c.place_of-i.ensures.place ∙ same_set held_cell cell h t.order.items (λ x e. sym e) there)

pub invariant_of-t-clause-once : goal.invariant_of-t-clause-once
invariant_of-t-clause-once g c = let t = c.args.t.now in let cell = c.args.cell in let h : Held g.row.T.Denot = record { cell = cell; shown = c.of.result } in
    let there = sym (held_has g.T.Kept.state cell t.seat.me.0.holds t.order.items t.in_order) ∙ c.requires.held in
    ap are_once (ap (λ (i : ℕ). map held_cell (set t.order.items i h)) c.place_of-i.ensures.place ∙ same_set held_cell cell h t.order.items (λ x e. sym e) there) ∙ t.once

pub invariant_of-t-clause-inside : goal.invariant_of-t-clause-inside
invariant_of-t-clause-inside g c = let t = c.args.t.now in let cell = c.args.cell in let h : Held g.row.T.Denot = record { cell = cell; shown = c.of.result } in
    let there = sym (held_has g.T.Kept.state cell t.seat.me.0.holds t.order.items t.in_order) ∙ c.requires.held in
    ap (are_below t.seat.table_id.slots) (ap (λ (i : ℕ). map held_cell (set t.order.items i h)) c.place_of-i.ensures.place ∙ same_set held_cell cell h t.order.items (λ x e. sym e) there) ∙ t.inside

pub returns-clause-seen : goal.returns-clause-seen
returns-clause-seen g c = let t = c.args.t.now in let cell = c.args.cell in let state = g.T.Kept.state in let h : Held g.row.T.Denot = record { cell = cell; shown = c.of.result } in
    let there = sym (held_has state cell t.seat.me.0.holds t.order.items t.in_order) ∙ c.requires.held in
    seen_shown state cell (state c.args.value.now) t.seat.me.0 t.order.items (set t.order.items c.place_of-i.result h) h (ap (λ (i : ℕ). set t.order.items i h) c.place_of-i.ensures.place) refl (ap state c.of.ensures)
    t.in_order t.once there
