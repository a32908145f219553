-- The tickets that are left, last first, follow those of the seats.
use Rattle.std.proofs.Common.{◌≡◌, ◌+◌, ◌≤◌, ◌++◌, All, map, reverse, vec_len, vec_capacity}
use Rattle.vfm_types.specs.Desc.{device_count}
use Rattle.vfm_turn.specs.Seen.{nothing_seen}
use Rattle.vfm_turn.specs.Words.{IsTicketOf, number_of, seats_of, seen_of}
use Rattle.vfm_plant.specs.Rooms.{IsRoom}
use Rattle.vfm_plant.specs.Seat.{IsSeatOf, count_of, seat_number}
use Rattle.vfm_plant.proofs.rooms.deal.Given as goal

abbrev pub invariant-loop-ticket : goal.invariant-loop-ticket
invariant-loop-ticket l = record {
  enough : vec_len l.tickets ≤ vec_len l.each;
  room : vec_len l.seats + vec_len l.tickets ≤ vec_capacity l.seats;
  tickets : All (λ t. IsTicketOf l.plant.board t × (seen_of t ≡ nothing_seen)) l.tickets.items;
  each : All (IsRoom (device_count l.plant.desc) (seats_of l.plant.board)) l.each.items;
  seats : All (λ s. IsSeatOf l.plant s × (count_of s ≡ 0)) l.seats.items;
  numbers : map seat_number l.seats.items ++ map number_of (reverse l.tickets.items) ≡ map number_of l.fn.tickets.items;
}

abbrev pub decreases-loop-ticket : goal.decreases-loop-ticket
decreases-loop-ticket l = vec_len l.tickets
