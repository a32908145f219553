-- The pages so far are written.
use Rattle.std.proofs.Common.{take}
use Rattle.vfm_plain.specs.StateText.{pages_text}
use Rattle.vfm_text.proofs.state.put_pages.Given as goal

abbrev pub invariant-loop-p : goal.invariant-loop-p
invariant-loop-p g l = g.P.TextWriter.takes l.fn.writer l.writer (pages_text 0 (take l.p (g.M.MachineView.machine l.machine).pages))
