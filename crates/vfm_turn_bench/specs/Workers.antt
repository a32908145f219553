-- What the workers' tickets are before, between and after their turns.
use Rattle.std.specs.Prelude.{◌≡◌, ℕ, List, [], map}
use Rattle.vfm_turn.specs.declared.board.Board.{Board}
use Rattle.vfm_turn.specs.declared.ticket.Ticket.{Ticket}
use Rattle.vfm_turn.specs.declared.kept.Kept.{Ghosts}
use Rattle.vfm_turn.specs.Words.{IsTicketOf, number_of, holds_of, records_of}
use Rattle.vfm_turn_bench.specs.declared.count.Count.{Count}
use Rattle.vfm_turn_bench.specs.declared.worker.Worker.{Worker}

-- a ticket of the board that holds no cell
abbrev pub IsAtRest : {T Z : Type 0} {g : Ghosts T Z} → Board T Z → Ticket T Z g → Type 0
IsAtRest b t = IsTicketOf b t × (holds_of t ≡ [])

-- one that has drawn nothing yet
abbrev pub IsNew : {T Z : Type 0} {g : Ghosts T Z} → Board T Z → Ticket T Z g → Type 0
IsNew b t = IsTicketOf b t × (holds_of t ≡ []) × (records_of t ≡ [])

-- the numbers of their seats
abbrev pub numbers_of : List Worker → List ℕ
numbers_of workers = map (λ w. number_of w.ticket) workers

-- a worker after its turns
abbrev pub IsWorked : Board Count ℕ → Worker → Worker → Type 0
IsWorked b old new = IsAtRest b new.ticket × (number_of new.ticket ≡ number_of old.ticket)
