use Rattle.std.proofs.Common.{◌≡◌, ◌≤◌, ◌++◌, ℕ, [], ◌∷◌, List, map, vec_capacity, sym, ap, ◌∙◌, subst, append_assoc, arith}
use mathlib.Core.Logic.{dite}
use native.Mathlib.Decide.{ℕ_discrete}
use Rattle.vfm_turn.specs.declared.seen.Past.{Past}
use Rattle.vfm_turn.specs.declared.ticket.Ticket.{Ticket}
use Rattle.vfm_turn.specs.Order.{has, empty_slot}
use Rattle.vfm_turn.specs.Steps.{past_of}
use Rattle.vfm_turn.specs.Words.{IsSeatOf, number_of, holds_of, past_told}
use Rattle.vfm_turn.proofs.Keeps.{joins}
use Rattle.vfm_turn.proofs.Tickets.{map_end}
use Rattle.vfm_turn.proofs.Closes.{all_parts, has_last, has_before, none_held}
use Rattle.vfm_turn.proofs.close.gather.Goals as goal

pub loop-ticket-init : goal.loop-ticket-init
loop-ticket-init g c = let t = c.in-Some.last in let rest = c.pop.new.self.items in let e = c.in-Some.ensures.items in
    let parts = all_parts (λ (x : Ticket g.row.T.Denot g.row.T-State.Denot g.T.Kept). IsSeatOf c.args.top.now x × (holds_of x ≡ [])) rest c.args.tickets.items t e c.requires.tickets in
    let none = none_held g.T.Kept.state t.seat.me.0.holds t.order.items t.in_order parts.1.1 in record {
      table = parts.1.0.0;
      live = t.live;
      holds = none.0;
      told = ap (λ (ps : List (Past g.row.T-State.Denot)). map past_told rest ++ (ps ++ past_of t.seat.me.0 ∷ [])) t.alone ∙ sym (ap (map past_told) e ∙ map_end past_told rest t);
      tickets = parts.0;
      empty = t.bare;
      room = λ n. (let zero_is : t.number ≡ 0 = has_last 0 t.number (map number_of rest) (ap (has 0) (sym (ap (map number_of) e ∙ map_end number_of rest t)) ∙ c.requires.first) n in
          subst (λ (k : ℕ). k ≤ vec_capacity t.room) (ap (λ id. id.slots) parts.1.0.0) (t.spare zero_is));
    }

pub join_seat-requires : goal.join_seat-requires
join_seat-requires g c = let t = c.in-Some-pop.ticket in let i = c.loop-ticket.invariant in
    let parts = all_parts (λ (x : Ticket g.row.T.Denot g.row.T-State.Denot g.T.Kept). IsSeatOf c.args.top.now x × (holds_of x ≡ [])) c.pop-in-loop-ticket.new.self.items c.loop-ticket.tickets.items t c.in-Some-pop.ensures.items i.tickets in
    let none = none_held g.T.Kept.state t.seat.me.0.holds t.order.items t.in_order parts.1.1 in
    (i.table, parts.1.0.0, t.out ∙ ap (map empty_slot) none.1, c.requires.words, joins g.T.Kept.state g.T.Kept.fits c.args.top.now.key _ _ _ _ i.live t.live none.0)

pub loop-ticket-preserved : goal.loop-ticket-preserved
loop-ticket-preserved g c = let t = c.in-Some-pop.ticket in let i = c.loop-ticket.invariant in let rest = c.pop-in-loop-ticket.new.self.items in let e = c.in-Some-pop.ensures.items in let v = c.loop-ticket.seat.me.0 in
    let parts = all_parts (λ (x : Ticket g.row.T.Denot g.row.T-State.Denot g.T.Kept). IsSeatOf c.args.top.now x × (holds_of x ≡ [])) rest c.loop-ticket.tickets.items t e i.tickets in
    let view = ap (λ m. m.0) c.join_seat.ensures.2 in record {
      table = c.join_seat.ensures.0 ∙ i.table;
      live = ap (λ w. w.live) view ∙ i.live;
      holds = ap (λ w. w.holds) view ∙ i.holds;
      told = ap (λ w. map past_told rest ++ (w.pasts ++ past_of w ∷ [])) view
          ∙ (sym (append_assoc (map past_told rest) (past_of t.seat.me.0 ∷ []) (v.pasts ++ past_of v ∷ [])) ∙ (ap (λ (ps : List (Past g.row.T-State.Denot)). ps ++ (v.pasts ++ past_of v ∷ [])) (sym (ap (map past_told) e ∙ map_end past_told rest t)) ∙ i.told));
      tickets = parts.0;
      empty = c.larger-room.ensures.empty;
      room = λ n. dite (ℕ_discrete t.number 0)
          (λ zero_is. let s = subst (λ (k : ℕ). k ≤ vec_capacity t.room) (ap (λ id. id.slots) parts.1.0.0) (t.spare zero_is) in let l = c.larger-room.ensures.room.1 in omega arith)
          (λ other. let s = i.room (ap (has 0) (ap (map number_of) e ∙ map_end number_of rest t) ∙ has_before 0 t.number (map number_of rest) n other) in let l = c.larger-room.ensures.room.0 in omega arith);
    }
