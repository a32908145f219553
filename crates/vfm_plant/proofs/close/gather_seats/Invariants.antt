-- The seats that are left, last first, follow those that were gathered.
use Rattle.std.proofs.Common.{◌≡◌, ◌+◌, ◌≤◌, ◌++◌, map, reverse, vec_len, vec_capacity}
use Rattle.vfm_plant.proofs.close.gather_seats.Given as goal

abbrev pub invariant-loop-seat : goal.invariant-loop-seat
invariant-loop-seat l = record {
  tickets : l.tickets.items ++ map (λ s. s.ticket) (reverse l.seats.items) ≡ map (λ s. s.ticket) l.fn.seats.items;
  lists : l.lists.items ++ map (λ s. s.made) (reverse l.seats.items) ≡ map (λ s. s.made) l.fn.seats.items;
  some : vec_len l.tickets + vec_len l.seats ≤ vec_capacity l.tickets;
  room : vec_len l.lists + vec_len l.seats ≤ vec_capacity l.lists;
}

abbrev pub decreases-loop-seat : goal.decreases-loop-seat
decreases-loop-seat l = vec_len l.seats
