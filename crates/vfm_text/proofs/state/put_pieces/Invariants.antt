-- The pieces so far are written, and what is left is cut into the others.
use Rattle.std.proofs.Common.{take}
use Rattle.vfm_plain.specs.Text.{numbered_text}
use Rattle.vfm_plain.specs.StateText.{pieces, numbered_bar_line}
use Rattle.vfm_text.proofs.Pieces.{IsLeft}
use Rattle.vfm_text.proofs.state.put_pieces.Given as goal

abbrev pub invariant-loop-k : goal.invariant-loop-k
invariant-loop-k g l = record {
  left : IsLeft l.sizes l.bytes l.rest l.k;
  written : g.P.TextWriter.takes l.fn.writer l.writer (numbered_text (numbered_bar_line l.d) 0 (take l.k (pieces l.sizes l.bytes)));
}
