use Rattle.std.proofs.Common.{◌≡◌, ◌<◌, ◌||◌, ℕ, true, map, All, vec_len}
use Rattle.vfm_turn.specs.Order.{has}
use Rattle.vfm_turn.specs.Words.{seats_of, number_of}
use Rattle.vfm_turn_bench.specs.Workers.{IsAtRest, numbers_of}
use Rattle.vfm_turn_bench.proofs.round.dismiss.Given as goal

abbrev pub invariant-loop-worker : goal.invariant-loop-worker
invariant-loop-worker l = record {
  workers : All (λ w. IsAtRest l.board w.ticket) l.workers.items;
  tickets : All (λ t. IsAtRest l.board t) l.tickets.items;
  all : (k : ℕ) → k < seats_of l.board → (has k (numbers_of l.workers.items) || has k (map number_of l.tickets.items)) ≡ true;
}

abbrev pub decreases-loop-worker : goal.decreases-loop-worker
decreases-loop-worker l = vec_len l.workers
