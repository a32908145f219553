use Rattle.std.proofs.Common.{◌≡◌, ◌≤◌, ◌+◌, ◌<◌, ℕ, eqb, length, map, List, [], ◌∷◌, ◌++◌, sym, ap, ◌∙◌, subst, arith, Some, None, false, Option, vec_capacity, vec_len}
use Rattle.std.proofs.lemmas.List.{length-map}
use mathlib.Core.Option.{none}
use prog.Atomic.{either}
use Rattle.atomic_table.specs.Table.{step, Allows}
use Rattle.vfm_turn.specs.Seen.{stand}
use Rattle.vfm_turn.specs.Order.{has, are_once, are_below, held_cell, stand_cell, empty_slot}
use Rattle.vfm_turn.specs.Rule.{Ruled, stands_in}
use Rattle.vfm_turn.specs.Steps.{entering, view_entered}
use Rattle.vfm_turn.proofs.Keeps.{enters}
use Rattle.vfm_turn.proofs.Tickets.{held_stands, held_has, room_for, once_end, below_end, map_end}
use Rattle.vfm_turn.proofs.Calls.{was_free, same_slot, first_slot, took_slot, seen_entered}
use Rattle.vfm_turn.proofs.board.Board.enter.Goals as goal

pub compare_exchange-found-requires : goal.compare_exchange-found-requires
compare_exchange-found-requires g c =
    let t = c.args.t.now in let b = c.args.self.now in let key = b.table.shared.key in let me = t.seat.me in let state = g.T.Kept.state in let fits = g.T.Kept.fits in let cell = c.args.cell in
    let slots = b.table.shared.table_id.slots in
    let free : stands_in cell me.0.holds ≡ false = sym (held_stands state cell me.0.holds t.order.items t.in_order) ∙ c.requires.free in
    let number : c.from-number.result + 1 ≡ me.0.number + 1 = ap (λ (a : ℕ). a + 1) (c.from-number.ensures ∙ sym t.numbered) in
    let inside : cell < length key.cells.value.items = subst (λ (a : ℕ). cell < a) (sym b.cells) c.requires.cell in (
      c.requires.ticket.0,
      (let a : b.table.shared.table_id.words ≡ slots + 1 = b.words in let d : cell < slots = c.requires.cell in omega arith),
      subst (λ (a : ℕ). Allows (Ruled state fits key) slots t.seat.id me (cell + 1) (λ m. either (eqb m 0) a m) (entering state fits (step slots (cell + 1) 0 a none) me)) (sym number)
          (enters state fits key slots t.seat.id cell me inside t.live free),
    )

pub exchange-requires : goal.exchange-requires
exchange-requires g c = let hit = was_free g.T.Kept.state g.T.Kept.fits c.args.cell c.compare_exchange-found.result c.args.t.now.seat.me c.compare_exchange-found.new.seat.me c.if-found-ne0.false c.compare_exchange-found.ensures.2 in
    (c.compare_exchange-found.ensures.0 ∙ c.requires.ticket.0, (Some hit.0, first_slot c.args.cell (Some hit.0) c.compare_exchange-found.new.seat.me.1 c.args.t.now.seat.me.1 hit.1))

pub push_reserved-requires : goal.push_reserved-requires
push_reserved-requires g c = let t = c.args.t.now in
    let bare : has c.args.cell (map held_cell t.order.items) ≡ false = sym (held_has g.T.Kept.state c.args.cell t.seat.me.0.holds t.order.items t.in_order) ∙ c.requires.free in
    let lt : c.args.cell < t.seat.table_id.slots = subst (λ (z : ℕ). c.args.cell < z) (sym (ap (λ id. id.slots) c.requires.ticket.0)) c.requires.cell in
    let h = room_for t.seat.table_id.slots c.args.cell (map held_cell t.order.items) t.once t.inside bare lt in
    let len = length-map t.order.items held_cell in let count : vec_len t.order ≡ length t.order.items = t.order.ok.0 in let reach : t.seat.table_id.slots ≤ vec_capacity t.order = t.reach in omega arith

pub invariant_of-t-2-clause-out : goal.invariant_of-t-2-clause-out
invariant_of-t-2-clause-out g c = let t = c.args.t.now in let cell = c.args.cell in
    let hit = was_free g.T.Kept.state g.T.Kept.fits c.args.cell c.compare_exchange-found.result c.args.t.now.seat.me c.compare_exchange-found.new.seat.me c.if-found-ne0.false c.compare_exchange-found.ensures.2 in
    let e = took_slot cell (Some hit.0) _ t.seat.me c.compare_exchange-found.new.seat.me c.exchange.new.seat.me c.turn.new.self.me hit.1 hit.2 c.exchange.ensures.3 c.turn.ensures.2 in
    e.1 ∙ (ap (λ (ys : List (ℕ × Option g.row.T.Denot)). ys ++ (cell, None) ∷ []) t.out ∙ sym (ap (map empty_slot) c.push_reserved.ensures.items ∙ map_end empty_slot t.order.items _))

pub invariant_of-t-2-clause-in_order : goal.invariant_of-t-2-clause-in_order
invariant_of-t-2-clause-in_order g c = let t = c.args.t.now in let cell = c.args.cell in
    let hit = was_free g.T.Kept.state g.T.Kept.fits c.args.cell c.compare_exchange-found.result c.args.t.now.seat.me c.compare_exchange-found.new.seat.me c.if-found-ne0.false c.compare_exchange-found.ensures.2 in
    let e = took_slot cell (Some hit.0) _ t.seat.me c.compare_exchange-found.new.seat.me c.exchange.new.seat.me c.turn.new.self.me hit.1 hit.2 c.exchange.ensures.3 c.turn.ensures.2 in
    ap (λ v. map stand_cell v.holds) e.0 ∙ (map_end stand_cell t.seat.me.0.holds (stand cell (g.T.Kept.state hit.0)) ∙ (ap (λ (ys : List ℕ). ys ++ cell ∷ []) t.in_order
    ∙ sym (ap (map held_cell) c.push_reserved.ensures.items ∙ map_end held_cell t.order.items _)))

pub invariant_of-t-2-clause-once : goal.invariant_of-t-2-clause-once
invariant_of-t-2-clause-once g c = let t = c.args.t.now in
    let bare : has c.args.cell (map held_cell t.order.items) ≡ false = sym (held_has g.T.Kept.state c.args.cell t.seat.me.0.holds t.order.items t.in_order) ∙ c.requires.free in
    ap are_once (ap (map held_cell) c.push_reserved.ensures.items ∙ map_end held_cell t.order.items _) ∙ once_end c.args.cell (map held_cell t.order.items) t.once bare

pub invariant_of-t-2-clause-inside : goal.invariant_of-t-2-clause-inside
invariant_of-t-2-clause-inside g c = let t = c.args.t.now in
    let same : c.turn.new.self.table_id ≡ t.seat.table_id = c.turn.ensures.0 ∙ (c.exchange.ensures.0 ∙ c.compare_exchange-found.ensures.0) in
    let lt : c.args.cell < t.seat.table_id.slots = subst (λ (z : ℕ). c.args.cell < z) (sym (ap (λ id. id.slots) c.requires.ticket.0)) c.requires.cell in
    ap (λ id. are_below id.slots (map held_cell c.push_reserved.new.self.items)) same ∙ (ap (are_below t.seat.table_id.slots) (ap (map held_cell) c.push_reserved.ensures.items ∙ map_end held_cell t.order.items _)
    ∙ below_end t.seat.table_id.slots c.args.cell (map held_cell t.order.items) t.inside lt)

pub returns-clause-ok : goal.returns-clause-ok
returns-clause-ok g c = let t = c.args.t.now in let cell = c.args.cell in let state = g.T.Kept.state in
    let hit = was_free state g.T.Kept.fits c.args.cell c.compare_exchange-found.result c.args.t.now.seat.me c.compare_exchange-found.new.seat.me c.if-found-ne0.false c.compare_exchange-found.ensures.2 in
    let e = took_slot cell (Some hit.0) _ t.seat.me c.compare_exchange-found.new.seat.me c.exchange.new.seat.me c.turn.new.self.me hit.1 hit.2 c.exchange.ensures.3 c.turn.ensures.2 in
    let same : hit.0 ≡ c.in-Some.value = (let s = same_slot cell (Some hit.0) c.exchange.result c.compare_exchange-found.new.seat.me.1 _ _ hit.1 c.exchange.ensures.2 in let i = c.in-Some.is in cc) in
    seen_entered state cell (state c.in-Some.value) t.seat.me.0 c.turn.new.self.me.0 t.order.items c.push_reserved.new.self.items (record { cell = cell; shown = c.of.result }) (e.0 ∙ ap (λ (x : g.row.T.Denot). view_entered cell (state x) t.seat.me.0) same) c.push_reserved.ensures.items
    (ap state c.of.ensures) t.in_order
