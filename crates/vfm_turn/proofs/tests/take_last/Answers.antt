use Rattle.std.proofs.Common.{◌≡◌, [], map, length, ap, ◌∙◌}
use Rattle.vfm_turn.specs.Words.{IsTicketOf, number_of, holds_of, records_of}
use Rattle.vfm_turn.proofs.Tickets.{map_end}
use Rattle.vfm_turn.proofs.Closes.{all_parts}
use Rattle.vfm_turn.proofs.tests.take_last.Goals as goal

pub returns-clause-numbers : goal.returns-clause-numbers
returns-clause-numbers c = ap (map number_of) c.in-Some.ensures.items ∙ map_end number_of c.pop.new.self.items c.in-Some.t

pub returns-clause-one : goal.returns-clause-one
returns-clause-one c = let p = (all_parts (λ t. IsTicketOf c.args.board.now t × (holds_of t ≡ []) × (records_of t ≡ [])) c.pop.new.self.items c.args.tickets.now.items c.in-Some.t c.in-Some.ensures.items c.requires.rest).1 in
    (p.0, p.1, ap length p.2)

pub returns-clause-rest : goal.returns-clause-rest
returns-clause-rest c = (all_parts (λ t. IsTicketOf c.args.board.now t × (holds_of t ≡ []) × (records_of t ≡ [])) c.pop.new.self.items c.args.tickets.now.items c.in-Some.t c.in-Some.ensures.items c.requires.rest).0
