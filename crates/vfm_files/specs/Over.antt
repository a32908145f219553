-- A call of `run` over files and standard output.
use Rattle.std.specs.Prelude.{ℕ, List, None}
use Rattle.vfm_outside.specs.Tells.{WiresTell, source_tells, sink_tells}
use Rattle.vfm_status.specs.declared.status.Status.{Status}
use Rattle.vfm_top.specs.Call.{Call, outside, call_of}

-- how many reads of the description, how many of the report, and how many writes failed
pub record Failures : Type 0 where
  pub reads : ℕ
  pub report_reads : ℕ
  pub writes : ℕ

-- A call of `run` with these words over files and standard output, which show no bytes and had no failure before it, and over
-- wires that show this before it and after it.
abbrev pub call_over_files : List (List ℕ) → WiresTell → WiresTell → Failures → Status → Call
call_over_files words before now failures answer =
    call_of words (outside (source_tells None 0) (source_tells None 0) before (sink_tells None 0))
    (outside (source_tells None failures.reads) (source_tells None failures.report_reads) now (sink_tells None failures.writes))
    answer
