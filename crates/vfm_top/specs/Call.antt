-- A call of `run`: its words, what the objects outside show before it and after it, and its answer.
use Rattle.std.specs.Prelude.{◌≡◌, ℕ, ◌≤◌, List, length, take, drop, Option, IfSome, option_map}
use Rattle.vfm_outside.specs.Told.{with_appended, with_prepended}
use Rattle.vfm_outside.specs.Counts.{Rose}
use Rattle.vfm_outside.specs.Tells.{SourceTells, SinkTells, WiresTell}
use Rattle.vfm_status.specs.declared.status.Status.{Status}
use Rattle.vfm_move.specs.Causes.{Attempt}
use Rattle.vfm_migrate.specs.Migrations.{attempt_of}

-- what the description's source, the report's source, the wires and the output show at one moment
pub record Outside : Type 0 where
  pub desc : SourceTells
  pub report : SourceTells
  pub wires : WiresTell
  pub out : SinkTells

abbrev pub outside : SourceTells → SourceTells → WiresTell → SinkTells → Outside
outside desc report wires out = record { desc = desc; report = report; wires = wires; out = out }

-- a call: its words without the program's name, what is shown outside before it and after it, and its answer
pub record Call : Type 0 where
  pub words : List (List ℕ)
  pub before : Outside
  pub now : Outside
  pub answer : Status

abbrev pub call_of : List (List ℕ) → Outside → Outside → Status → Call
call_of words before now answer = record { words = words; before = before; now = now; answer = answer }

-- the attempt at a move that the call is, with the pass after whose end the source is to give up, 0 for none
abbrev pub attempt_in : Call → ℕ → Attempt
attempt_in call pass = attempt_of pass call.before.wires call.now.wires

-- how many bytes of a description are read at the most: one more than it may have
abbrev pub read_limit : ℕ
read_limit = 16777217

-- how many bytes of a report are read at the most: one more than it may have
abbrev pub report_limit : ℕ
report_limit = 134217729

-- the bytes that are to be read of a source, where it shows them: the first so many, or all
abbrev pub first_bytes : ℕ → SourceTells → Option (List ℕ)
first_bytes most source = option_map (take most) source.left

-- the bytes that are to be read of the description, and those of the report
abbrev pub bytes_read : Call → Option (List ℕ)
bytes_read call = first_bytes read_limit call.before.desc

abbrev pub report_read : Call → Option (List ℕ)
report_read call = first_bytes report_limit call.before.report

-- a failed read of the description was counted
abbrev pub HasReadFault : Call → Type 0
HasReadFault call = Rose call.before.desc.faults call.now.desc.faults

-- a failed read of the report was counted
abbrev pub HasReportFault : Call → Type 0
HasReportFault call = Rose call.before.report.faults call.now.report.faults

-- a failed write was counted
abbrev pub HasWriteFault : Call → Type 0
HasWriteFault call = Rose call.before.out.faults call.now.out.faults

-- this text was written wholly, and no write failed
pub record IsPrinted (text : List ℕ) (before now : SinkTells) : Type 0 where
  pub written : now.holds ≡ with_appended before.holds text
  pub faults : now.faults ≡ before.faults

-- the first bytes of a source were read, at most so many
pub record IsPrefixRead (most : ℕ) (before now : SourceTells) : Type 0 where
  pub bytes : List ℕ
  pub few : length bytes ≤ most
  pub read : before.left ≡ with_prepended bytes now.left

-- A source was read to its end, or up to so many bytes, without a fault: of the bytes that were read this holds, where it
-- shows them, and what stands after them is left.
pub record IsReadTo (most : ℕ) (P : List ℕ → Type 0) (before now : SourceTells) : Type 0 where
  pub bytes : IfSome (first_bytes most before) P
  pub rest : now.left ≡ option_map (drop most) before.left
  pub no_fault : now.faults ≡ before.faults
