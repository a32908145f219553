-- The word and the states so far are written.
use Rattle.std.proofs.Common.{take, map, ◌++◌, ◌∷◌}
use Rattle.std.specs.Prelude.{codes}
use Rattle.std.specs.List.{flat_map}
use Rattle.vfm_plain.specs.Text.{state_name}
use Rattle.vfm_top.proofs.line.put_path.Given as goal

abbrev pub invariant-loop-i : goal.invariant-loop-i
invariant-loop-i g l =
    g.P.TextWriter.takes l.fn.writer l.writer (codes "path" ++ flat_map (λ word. 32 ∷ word) (map state_name (take l.i l.route)))
