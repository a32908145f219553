use Rattle.std.proofs.Common.{◌≡◌, ◌≤◌, ◌+◌, [], length}
use Rattle.vfm_turn.specs.Words.{IsTicketOf, number_of, holds_of, records_of}
use Rattle.vfm_turn_bench.proofs.worker.Worker.work.Given as goal

abbrev pub invariant-loop-turn : goal.invariant-loop-turn
invariant-loop-turn l = record {
  ticket : IsTicketOf l.board l.self.ticket;
  number : number_of l.self.ticket ≡ number_of l.initial.self.ticket;
  rest : holds_of l.self.ticket ≡ [];
  few : length (records_of l.self.ticket) ≤ length (records_of l.initial.self.ticket) + l.turn;
}
