-- The first word and the words so far are written.
use Rattle.std.proofs.Common.{take, map, ◌++◌, ◌∷◌}
use Rattle.std.specs.List.{flat_map}
use Rattle.vfm_text.proofs.piece.put_line.Given as goal

abbrev pub invariant-loop-word : goal.invariant-loop-word
invariant-loop-word g l =
    g.P.TextWriter.takes l.fn.writer l.writer (l.first ++ flat_map (λ word. 32 ∷ word) (map (λ word. word.now) (take l.word-index l.words)))
