-- The first seat gives the room.
use Rattle.std.proofs.Common.{◌≡◌, ◌≤◌, List, [], ◌∷◌, ◌++◌, map, reverse, length, ap, sym, subst, ◌∙◌, arith, vec_len, vec_capacity, All}
use Rattle.std.proofs.lemmas.List.{reverse-append, reverse-reverse}
use Rattle.std.proofs.lemmas.List.Elements.{All-head}
use Rattle.vfm_plant.specs.declared.seat.PlantSeat.{PlantSeat}
use Rattle.vfm_plant.proofs.close.gather_seats.Goals as goal

pub loop-seat-init : goal.loop-seat-init
loop-seat-init c =
    let first = c.in-Some.first in
    let rest = c.pop.new.self.items in
    let seats = c.args.seats.items in
    let all : seats ≡ first ∷ reverse rest =
    sym (reverse-reverse seats) ∙ (ap (λ (ss : List PlantSeat). reverse ss) (sym c.reverse.ensures.items ∙ c.in-Some.ensures.items) ∙ reverse-append rest (first ∷ [])) in
    let tickets = All-head (λ s. (s.tickets.items ≡ []) × (vec_len c.args.seats ≤ vec_capacity s.tickets)) first (reverse rest)
    (subst (All (λ s. (s.tickets.items ≡ []) × (vec_len c.args.seats ≤ vec_capacity s.tickets))) all c.requires.tickets) in
    let lists = All-head (λ s. (s.lists.items ≡ []) × (vec_len c.args.seats ≤ vec_capacity s.lists)) first (reverse rest)
    (subst (All (λ s. (s.lists.items ≡ []) × (vec_len c.args.seats ≤ vec_capacity s.lists))) all c.requires.lists) in
    let fewer = c.in-Some.ensures.len in
    let turned = c.reverse.ensures.len in
    record {
      tickets =
          ap (λ ts. ts ++ map (λ (s : PlantSeat). s.ticket) (reverse rest)) (c.push_reserved.ensures.items ∙ ap (λ ts. ts ++ first.ticket ∷ []) tickets.0)
          ∙ ap (map (λ (s : PlantSeat). s.ticket)) (sym all);
      lists =
          ap (λ ts. ts ++ map (λ (s : PlantSeat). s.made) (reverse rest)) (c.push_reserved-2.ensures.items ∙ ap (λ ts. ts ++ first.made ∷ []) lists.0)
          ∙ ap (map (λ (s : PlantSeat). s.made)) (sym all);
      some = (let len = c.push_reserved.ensures.len in let cap = c.push_reserved.ensures.capacity in let none = ap (λ ts. length ts) tickets.0 in
          let ok = first.tickets.ok.0 in let room = tickets.1 in omega arith);
      room = (let len = c.push_reserved-2.ensures.len in let cap = c.push_reserved-2.ensures.capacity in let none = ap (λ ts. length ts) lists.0 in
          let ok = first.lists.ok.0 in let room = lists.1 in omega arith);
    }
