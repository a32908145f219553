use Rattle.std.proofs.Common.{◌∙◌, ap, take, drop, sym, ℕ, List}
use Rattle.rtrb.specs.Ring.{received, known_items}
use Rattle.vfm_outside.specs.Pieces.{pieces_bytes, first_bytes}
use Rattle.vfm_outside.proofs.RingLemmas.{first_is, came_more}
use Rattle.vfm_outside.proofs.inlet.Inlet.take.Goals as goal

pub returns-else-n-gt0-clause-came : goal.returns-else-n-gt0-clause-came
returns-else-n-gt0-clause-came c =
    let self = c.args.self.now in
    let n = c.copy_to-n.result in
    let first = first_is c.peek_known-piece.result.now (known_items c.args.self.now.ring) c.peek_known-piece.ensures in
    came_more (pieces_bytes (received c.args.self.now.ring)) (first_bytes (known_items c.args.self.now.ring)) c.copy_to-n.new.buf c.args.self.now.at n
    (c.copy_to-n.ensures.given ∙ ap (λ (l : List ℕ). take n (drop c.args.self.now.at l)) (sym first))
