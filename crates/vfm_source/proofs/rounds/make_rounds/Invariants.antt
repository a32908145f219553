-- The source is under way, the links fare by their counts, and fewer entries are left after each round but the last.
use Rattle.std.proofs.Common.{◌≡◌, ℕ, List, Option}
use Rattle.vfm_drive.specs.Runs.{left_in}
use Rattle.vfm_source.specs.Moving.{IsMoving, IsOnMove, past_in}
use Rattle.vfm_source.specs.Rounds.{FailsEarly, Leaves, words}
use Rattle.vfm_source.proofs.rounds.make_rounds.Given as goal

abbrev pub invariant-rounds : goal.invariant-rounds
invariant-rounds g l = record {
  moving : IsOnMove g.L.Link.sent l.joint l.core l.outlets;
  moves : (starts : List (Option (List ℕ))) → IsMoving g.L.Link.sent starts l.fn.joint l.fn.core l.fn.outlets
      → IsMoving g.L.Link.sent starts l.joint l.core l.outlets;
  leaves : Leaves (words g.L.Link.failed_out g.L.Link.failed_in g.L.Link.received g.L.Link.ended) l.fn.outlets l.outlets;
  desc : l.core.desc ≡ l.fn.core.desc;
  early : FailsEarly l.abort_after (past_in l.fn.core) → FailsEarly l.abort_after (past_in l.core);
}

abbrev pub decreases-rounds : goal.decreases-rounds
decreases-rounds g l = left_in l.core
