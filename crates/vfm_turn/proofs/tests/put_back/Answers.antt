use Rattle.std.proofs.Common.{map, ap, ◌∙◌}
use Rattle.vfm_turn.specs.Words.{number_of}
use Rattle.vfm_turn.proofs.Tickets.{map_end}
use Rattle.vfm_turn.proofs.tests.put_back.Goals as goal

pub returns-clause-numbers : goal.returns-clause-numbers
returns-clause-numbers c = ap (map number_of) c.push_reserved.ensures.items ∙ map_end number_of c.args.tickets.now.items c.args.t
