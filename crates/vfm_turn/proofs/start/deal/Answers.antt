use Rattle.std.proofs.Common.{◌≡◌, ◌+◌, ◌<◌, ◌≤◌, ◌++◌, ◌∷◌, [], ℕ, map, All, Option, Vec, sym, ap, ◌∙◌, subst, arith, vec_len, vec_capacity}
use Rattle.std.specs.List.{range_with_len}
use Rattle.std.specs.Global.{Global}
use Rattle.std.proofs.lemmas.List.Elements.{All-push}
use Rattle.atomic_table.specs.Table.{Me}
use Rattle.atomic_table.specs.declared.shared.Seat.{Seat}
use Rattle.vfm_turn.specs.declared.seen.Held.{Held}
use Rattle.vfm_turn.specs.declared.seen.View.{View}
use Rattle.vfm_turn.specs.Seen.{nothing_seen}
use Rattle.vfm_turn.specs.Steps.{new_view}
use Rattle.vfm_turn.specs.Words.{IsSeatOf, number_of, seen_of}
use Rattle.vfm_turn.proofs.Keeps.{splits}
use Rattle.vfm_turn.proofs.Tickets.{map_end}
use Rattle.vfm_turn.proofs.Closes.{all_parts, range_end}
use Rattle.vfm_turn.proofs.start.deal.Goals as goal

pub split_seat-next-requires : goal.split_seat-next-requires
split_seat-next-requires g c = let i = c.loop-number.invariant in let seats = c.args.top.now.key.seats in
    let view = ap (λ (m : Me (Option g.row.T.Denot) (View g.row.T-State.Denot)). m.0) i.fresh in
    let room : c.loop-number.seat.me.0.number + 1 < seats = (let a = ap (λ (v : View g.row.T-State.Denot). v.number) view in let t = c.loop-number-test.true in let l = c.len.ensures in let s = c.requires.seats.2 in omega arith) in
    (i.table, c.requires.words, splits g.T.Kept.state g.T.Kept.fits c.args.top.now.key _ c.loop-number.seat.me.0 (ap (λ (v : View g.row.T-State.Denot). v.live) view) (ap (λ (v : View g.row.T-State.Denot). v.newest) view) room)

pub ticket-requires-clause-order : goal.ticket-requires-clause-order
ticket-requires-clause-order g c = let i = c.loop-number.invariant in
    let parts = all_parts (λ (v : Vec (Held g.row.T.Denot) Global). (v.items ≡ []) × (c.args.top.now.table_id.slots ≤ vec_capacity v)) c.pop.new.self.items c.loop-number.orders.items c.in-Some.order c.in-Some.ensures.items i.rooms in
    (parts.1.0, subst (λ (k : ℕ). k ≤ vec_capacity c.in-Some.order) (ap (λ id. id.slots) (sym (c.split_seat-next.ensures.0 ∙ i.table))) parts.1.1)

pub loop-number-preserved : goal.loop-number-preserved
loop-number-preserved g c = let i = c.loop-number.invariant in let top = c.args.top.now in let k = c.loop-number.number in
    let view = ap (λ (m : Me (Option g.row.T.Denot) (View g.row.T-State.Denot)). m.0) i.fresh in
    let parts = all_parts (λ (v : Vec (Held g.row.T.Denot) Global). (v.items ≡ []) × (top.table_id.slots ≤ vec_capacity v)) c.pop.new.self.items c.loop-number.orders.items c.in-Some.order c.in-Some.ensures.items i.rooms in
    let old_view = ap (λ (m : Me (Option g.row.T.Denot) (View g.row.T-State.Denot)). m.0) c.split_seat-next.ensures.2 in
    let t = c.ticket.result in let seat = c.ticket.ensures.1 in record {
      table = c.split_seat-next.ensures.3 ∙ i.table;
      fresh = c.split_seat-next.ensures.4 ∙ ap (λ (v : View g.row.T-State.Denot). (new_view v, [])) view;
      orders = (let a = i.orders in let b : vec_len c.pop.new.self + 1 ≡ vec_len c.loop-number.orders = c.in-Some.ensures.len in omega arith);
      tickets = (let a = c.push_reserved.ensures.len in let b = i.tickets in omega arith);
      reach = subst (λ (n : ℕ). top.key.seats ≤ n) (sym c.push_reserved.ensures.capacity) i.reach;
      rooms = parts.0;
      empty = c.new-room.ensures.items;
      room = λ e. absurd (omega arith);
      numbers = ap (map number_of) c.push_reserved.ensures.items ∙ (map_end number_of c.loop-number.tickets.items t ∙ (ap (λ ys. ys ++ t.number ∷ []) i.numbers ∙ (ap (λ (n : ℕ). range_with_len 0 k ++ n ∷ []) (c.ticket.ensures.0 ∙ (let e : k ≡ 0 + k = omega arith in e)) ∙ sym (range_end 0 k))));
      new = subst (All (λ x. IsSeatOf top x × (seen_of x ≡ nothing_seen))) (sym c.push_reserved.ensures.items) (All-push (λ x. IsSeatOf top x × (seen_of x ≡ nothing_seen)) c.loop-number.tickets.items t i.new (
        (
          ap (λ (s : Seat (Option g.row.T.Denot) (View g.row.T-State.Denot)). s.table_id) seat ∙ (c.split_seat-next.ensures.0 ∙ i.table),
          ap (λ (s : Seat (Option g.row.T.Denot) (View g.row.T-State.Denot)). s.me.0.desc) seat ∙ (ap (λ (v : View g.row.T-State.Denot). v.desc) old_view ∙ ap (λ (v : View g.row.T-State.Denot). v.desc) view),
          ap (λ (s : Seat (Option g.row.T.Denot) (View g.row.T-State.Denot)). s.me.0.seats) seat ∙ (ap (λ (v : View g.row.T-State.Denot). v.seats) old_view ∙ ap (λ (v : View g.row.T-State.Denot). v.seats) view),
        ),
        c.ticket.ensures.2,
      ));
    }

pub ticket-requires-2-clause-order : goal.ticket-requires-2-clause-order
ticket-requires-2-clause-order g c = let i = c.loop-number.invariant in
    let parts = all_parts (λ (v : Vec (Held g.row.T.Denot) Global). (v.items ≡ []) × (c.args.top.now.table_id.slots ≤ vec_capacity v)) c.pop-2.new.self.items c.loop-number.orders.items c.in-Some-pop.order c.in-Some-pop.ensures.items i.rooms in
    (parts.1.0, subst (λ (k : ℕ). k ≤ vec_capacity c.in-Some-pop.order) (ap (λ id. id.slots) (sym i.table)) parts.1.1)

pub returns-clause-numbers : goal.returns-clause-numbers
returns-clause-numbers g c = let i = c.loop-number.invariant in let k = c.loop-number.number in let t = c.ticket-2.result in let seats = c.args.top.now.key.seats in
    let last : k + 1 ≡ seats = (let a = i.orders in let b : vec_len c.pop-2.new.self + 1 ≡ vec_len c.loop-number.orders = c.in-Some-pop.ensures.len in let f = c.loop-number-test.false in let l = c.len.ensures in let s = c.requires.seats.2 in omega arith) in
    let e : k ≡ 0 + k = omega arith in
    ap (map number_of) c.push_reserved-2.ensures.items ∙ (map_end number_of c.loop-number.tickets.items t ∙ (ap (λ ys. ys ++ t.number ∷ []) i.numbers
    ∙ (ap (λ (n : ℕ). range_with_len 0 k ++ n ∷ []) (c.ticket-2.ensures.0 ∙ (c.len-number.ensures ∙ (i.tickets ∙ e))) ∙ (sym (range_end 0 k) ∙ ap (range_with_len 0) last))))

pub returns-clause-tickets : goal.returns-clause-tickets
returns-clause-tickets g c = let i = c.loop-number.invariant in let top = c.args.top.now in
    let view = ap (λ (m : Me (Option g.row.T.Denot) (View g.row.T-State.Denot)). m.0) i.fresh in
    let t = c.ticket-2.result in let seat = c.ticket-2.ensures.1 in
    subst (All (λ x. IsSeatOf top x × (seen_of x ≡ nothing_seen))) (sym c.push_reserved-2.ensures.items) (All-push (λ x. IsSeatOf top x × (seen_of x ≡ nothing_seen)) c.loop-number.tickets.items t i.new (
      (
        ap (λ (s : Seat (Option g.row.T.Denot) (View g.row.T-State.Denot)). s.table_id) seat ∙ i.table,
        ap (λ (s : Seat (Option g.row.T.Denot) (View g.row.T-State.Denot)). s.me.0.desc) seat ∙ ap (λ (v : View g.row.T-State.Denot). v.desc) view,
        ap (λ (s : Seat (Option g.row.T.Denot) (View g.row.T-State.Denot)). s.me.0.seats) seat ∙ ap (λ (v : View g.row.T-State.Denot). v.seats) view,
      ),
      c.ticket-2.ensures.2,
    ))
