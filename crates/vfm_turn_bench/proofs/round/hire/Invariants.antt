use Rattle.std.proofs.Common.{◌≡◌, ◌<◌, ◌||◌, ℕ, true, map, All, vec_len}
use Rattle.vfm_turn.specs.Order.{has}
use Rattle.vfm_turn.specs.Words.{seats_of, number_of}
use Rattle.vfm_turn_bench.specs.Workers.{IsNew, numbers_of}
use Rattle.vfm_turn_bench.proofs.round.hire.Given as goal

abbrev pub invariant-loop-ticket : goal.invariant-loop-ticket
invariant-loop-ticket l = record {
  tickets : All (λ t. IsNew l.board t) l.tickets.items;
  workers : All (λ w. IsNew l.board w.ticket) l.workers.items;
  all : (k : ℕ) → k < seats_of l.board → (has k (map number_of l.tickets.items) || has k (numbers_of l.workers.items)) ≡ true;
}

abbrev pub decreases-loop-ticket : goal.decreases-loop-ticket
decreases-loop-ticket l = vec_len l.tickets
