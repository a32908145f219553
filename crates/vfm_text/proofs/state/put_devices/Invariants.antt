-- The devices so far are written.
use Rattle.std.proofs.Common.{take}
use Rattle.vfm_plain.specs.StateText.{devices_text}
use Rattle.vfm_text.proofs.state.put_devices.Given as goal

abbrev pub invariant-loop-d : goal.invariant-loop-d
invariant-loop-d g l = g.P.TextWriter.takes l.fn.writer l.writer (devices_text l.desc 0 (take l.d (g.M.MachineView.machine l.machine).devices))
