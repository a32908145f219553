-- The requests so far are written.
use Rattle.std.proofs.Common.{take}
use Rattle.std.specs.List.{flat_map}
use Rattle.vfm_plain.specs.StateText.{pending_line}
use Rattle.vfm_text.proofs.state.put_pending.Given as goal

abbrev pub invariant-loop-request : goal.invariant-loop-request
invariant-loop-request g l = g.P.TextWriter.takes l.fn.writer l.writer (flat_map (pending_line l.d) (take l.request-index l.pending))
