-- One more seat has its ticket and its room.
use Rattle.std.proofs.Common.{◌≡◌, ℕ, List, [], ◌∷◌, ◌++◌, All, map, reverse, length, ap, sym, subst, ◌∙◌, append_assoc, arith}
use Rattle.std.proofs.lemmas.List.{reverse-append}
use Rattle.std.proofs.lemmas.List.Elements.{All-push}
use Rattle.vfm_types.specs.Desc.{device_count}
use Rattle.vfm_turn.specs.Seen.{Seen, nothing_seen}
use Rattle.vfm_turn.specs.Words.{IsTicketOf, number_of, seats_of, seen_of}
use Rattle.vfm_turn.proofs.Closes.{all_parts}
use Rattle.vfm_turn.proofs.Tickets.{map_end}
use Rattle.vfm_cells.specs.Cells.{Cell}
use Rattle.vfm_cells.specs.WholeRun.{AreSteps}
use Rattle.vfm_plant.specs.declared.seat.Made.{Made}
use Rattle.vfm_plant.specs.Rooms.{IsRoom}
use Rattle.vfm_plant.specs.Seat.{IsSeatOf, count_of, made_of, seat_number}
use Rattle.vfm_plant.specs.Started.{base_of}
use Rattle.vfm_plant.proofs.rooms.deal.Goals as goal

pub loop-ticket-preserved : goal.loop-ticket-preserved
loop-ticket-preserved c =
    let plant = c.args.plant.now in
    let i = c.loop-ticket.invariant in
    let rest = c.pop.new.self.items in
    let ticket = c.in-Some.ticket in
    let room = c.in-Some-pop.room in
    let seats = c.loop-ticket.seats.items in
    let seat = c.push_reserved.new.value in
    let tickets = all_parts (λ t. IsTicketOf plant.board t × (seen_of t ≡ nothing_seen)) rest c.loop-ticket.tickets.items ticket c.in-Some.ensures.items i.tickets in
    let rooms = all_parts (IsRoom (device_count plant.desc) (seats_of plant.board)) c.pop-in-Some.new.self.items c.loop-ticket.each.items room c.in-Some-pop.ensures.items i.each in
    let none = ap (λ (s : Seen Cell). s.records) tickets.1.1 in
    let empty : length room.made.items ≡ 0 = ap (λ (ms : List Made). length ms) rooms.1.made.0 in
    record {
      enough = (let a = c.in-Some.ensures.len in let b = c.in-Some-pop.ensures.len in let before = i.enough in omega arith);
      room = (let a = c.in-Some.ensures.len in let b = c.push_reserved.ensures.len in let cap = c.push_reserved.ensures.capacity in let before = i.room in omega arith);
      tickets = tickets.0;
      each = rooms.0;
      seats =
          subst (All (λ s. IsSeatOf plant s × (count_of s ≡ 0))) (sym c.push_reserved.ensures.items)
          (All-push (λ s. IsSeatOf plant s × (count_of s ≡ 0)) seats _ i.seats (
            record {
              ticket = tickets.1.0;
              rest = ap (λ (s : Seen Cell). s.holds) tickets.1.1;
              steps = subst (AreSteps plant.desc) (sym none) tt;
              made = ap (map (made_of (base_of plant))) none ∙ sym (ap (λ (ms : List Made). reverse ms) rooms.1.made.0);
              few = omega arith;
              room = rooms.1.made.1;
              hands = rooms.1.hands;
              devices = rooms.1.devices;
              tickets = rooms.1.tickets;
              lists = rooms.1.lists;
            },
            empty,
          ));
      numbers =
          ap (λ ss. map seat_number ss ++ map number_of (reverse rest)) c.push_reserved.ensures.items
          ∙ (ap (λ (ns : List ℕ). ns ++ map number_of (reverse rest)) (map_end seat_number seats _)
          ∙ (append_assoc (map seat_number seats) (number_of ticket ∷ []) (map number_of (reverse rest))
          ∙ (ap (λ ts. map seat_number seats ++ map number_of ts) (sym (reverse-append rest (ticket ∷ [])) ∙ ap reverse (sym c.in-Some.ensures.items)) ∙ i.numbers)));
    }
