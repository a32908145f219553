use Rattle.std.proofs.Common.{◌≡◌, ◌+◌, ℕ, List, map, length, replicate, Some, Vec, sym, ap, ◌∙◌, subst, arith}
use lib.ListN.{get_elem?}
use Rattle.std.specs.Global.{Global}
use Rattle.std.specs.List.{range_with_len}
use Rattle.std.proofs.lemmas.List.{length-map}
use Rattle.vfm_types.specs.declared.desc.Desc.{Desc}
use Rattle.vfm_turn.specs.declared.seen.Key.{Key}
use Rattle.vfm_turn.specs.Order.{has, values_in, AreRooms}
use Rattle.vfm_turn.proofs.Keeps.{opens}
use Rattle.vfm_turn.proofs.Closes.{elem_get, has_range, values_some, home_some}
use Rattle.vfm_turn.proofs.board.Board.start.Goals as goal

pub new-requires : goal.new-requires
new-requires g c = let key : Key g.row.T.Denot = record { desc = c.of.result; cells = c.of-2.result; seats = c.args.seats } in let xs = c.args.cells.items in
    let same : key.cells.value.items ≡ xs = ap (λ (v : Vec g.row.T.Denot Global). v.items) c.of-2.ensures in
    let count : c.len.result ≡ length key.cells.value.items = c.len.ensures ∙ (c.args.cells.ok.0 ∙ ap length (sym same)) in
    let n = ap length same in
    let first = c.requires.cells.0 in
    opens g.T.Kept.state g.T.Kept.fits key c.as_slice.result.now c.moved.new.slots.items
    (c.as_slice.ensures.value ∙ (c.in-Ok.ensures.words ∙ ap (λ (k : ℕ). replicate (k + 1) 0) count))
    (c.moved.ensures.slots ∙ ap (map (λ (x : g.row.T.Denot). Some x)) (sym same))
    (omega arith) c.requires.seats.0 c.requires.seats.1
    (λ k x at. subst (λ (d : Desc). g.T.Kept.fits d k x) (sym c.of.ensures) (c.requires.fits k x (elem_get xs k x (ap (λ (ys : List g.row.T.Denot). get_elem? ys k) (sym same) ∙ at))))

pub deal-tickets-requires-clause-rooms : goal.deal-tickets-requires-clause-rooms
deal-tickets-requires-clause-rooms g c = let xs = c.args.cells.items in
    let slots : c.in-Ok-new.table.shared.table_id.slots ≡ c.len.result = c.in-Ok-new.ensures.ok.1 ∙ (ap length c.moved.ensures.slots ∙ (length-map xs (λ (x : g.row.T.Denot). Some x) ∙ sym (c.len.ensures ∙ c.args.cells.ok.0))) in
    (subst (λ (n : ℕ). AreRooms n c.in-Ok.rooms.orders.items) (sym slots) c.in-Ok.ensures.orders.1, c.in-Ok.ensures.tickets.0)

pub returns-in-Ok-new-clause-all : goal.returns-in-Ok-new-clause-all
returns-in-Ok-new-clause-all g c = λ k h. ap (has k) (c.deal-tickets.ensures.numbers ∙ ap (λ (y : Key g.row.T.Denot). range_with_len 0 y.seats) c.in-Ok-new.ensures.ok.5) ∙ has_range 0 c.args.seats k (omega arith) (omega arith)

pub moved_back-requires-clause-slots : goal.moved_back-requires-clause-slots
moved_back-requires-clause-slots g c = home_some c.in-Err-new.field-0.slots.items c.args.cells.items (c.in-Err-new.ensures.err ∙ c.moved.ensures.slots)

pub returns-clause-refused : goal.returns-clause-refused
returns-clause-refused g c = c.moved_back.ensures ∙ (ap values_in (c.in-Err-new.ensures.err ∙ c.moved.ensures.slots) ∙ values_some c.args.cells.items)
