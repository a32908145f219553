-- How often reads and writes failed: none before the call.
use Rattle.std.proofs.Common.{◌≡◌, ℕ, List, None}
use Rattle.vfm_outside.specs.Tells.{WiresTell, source_tells, sink_tells}
use Rattle.vfm_status.specs.declared.status.Status.{Status}
use Rattle.vfm_top.specs.Answers.{Promises}
use Rattle.vfm_top.specs.Call.{call_of, outside}
use Rattle.vfm_files.specs.Over.{Failures, call_over_files}
use Rattle.vfm_files.proofs.over_files.run_over_files.Goals as goal

-- a call before which nothing failed
promised : (words : List (List ℕ)) (before now : WiresTell) (failures : Failures) (desc report out : ℕ) (answer : Status) → desc ≡ 0 → report ≡ 0
    → out ≡ 0
    → Promises (call_of words (outside (source_tells None desc) (source_tells None report) before (sink_tells None out))
    (outside (source_tells None failures.reads) (source_tells None failures.report_reads) now (sink_tells None failures.writes)) answer)
    → (f : Failures) × Promises (call_over_files words before now f answer)
promised words before now failures desc report out answer d r o promises = (failures, rw (d, r, o) at promises)

pub returns : goal.returns
returns g c =
    promised _ _ _ (record { reads = _; report_reads = _; writes = _ }) _ _ _ c.run.result c.of-desc.ensures.faults c.of-report.ensures.faults c.of-out.ensures
    c.run.ensures
