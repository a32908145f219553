-- The pieces so far are written.
use Rattle.std.proofs.Common.{take}
use Rattle.std.specs.List.{flat_map}
use Rattle.vfm_text.proofs.piece.put_all.Given as goal

abbrev pub invariant-loop-piece : goal.invariant-loop-piece
invariant-loop-piece g l =
    g.P.TextWriter.takes l.fn.writer l.writer (flat_map (λ piece. piece.now) (take l.piece-index l.pieces))
