-- What a call that asks for a generated load came to.
use Rattle.std.specs.Prelude.{◌≡◌, ℕ, ◌++◌, Some}
use Rattle.vfm_types.specs.Machine.{Machine}
use Rattle.vfm_types.specs.Serial.{serial}
use Rattle.vfm_plain.specs.Report.{Made}
use Rattle.vfm_status.specs.declared.status.Status.TheVariants.{Moved, NoMemory}
use Rattle.vfm_status.specs.StatusText.{status_line}
use Rattle.vfm_streams.specs.Verdict.{Loads}
use Rattle.vfm_move.specs.Contact.{Contact, WhereTold}
use Rattle.vfm_move.specs.Carried.{go_bytes, staged_bytes, verdict_of}
use Rattle.vfm_move.specs.Move.{IsMoveOf}
use Rattle.vfm_move.specs.Table.{Owner, TookOver, Neither, WentOn, owner_at}
use Rattle.vfm_loads.specs.Generated.{generated}
use Rattle.vfm_top.specs.Text.{summary}
use Rattle.vfm_top.specs.Call.{Call, attempt_in, IsPrinted}

-- The machine that a summary of load N shows: the one machine with which the load ends, whatever was done in which order; where
-- neither end runs, the one at the joint stop.
abbrev pub IsLoad : Owner → ℕ → Made → Machine → Type 0
IsLoad Neither number made m = made.joint ≡ Some m
IsLoad TookOver number made m = m ≡ serial (generated number)
IsLoad WentOn number made m = m ≡ serial (generated number)

-- The summary of this machine was printed under the line of the call's answer.
abbrev pub PrintsLoad : ℕ → Machine → Call → Type 0
PrintsLoad number m call =
    IsPrinted (status_line call.answer ++ summary number (generated number) m) call.before.out call.now.out

-- Where the wires tell, the channels brought the machine at the joint stop, and the control links carried its digest.
abbrev pub WasBrought : Contact → Made → Type 0
WasBrought contact made = WhereTold contact (λ lines.
    (m : Machine) × (made.joint ≡ Some m) × (verdict_of made lines ≡ Loads m)
    × (lines.source_control.received ≡ staged_bytes made) × (lines.dest_control.received ≡ go_bytes made))

-- Load N was moved, or not: a source of it was made, and its summary was printed.
pub record EndsLoad (number : ℕ) (call : Call) : Type 0 where
  pub made : Made
  pub contact : Contact
  pub machine : Machine
  pub desc : made.desc ≡ generated number
  pub move_of : IsMoveOf (attempt_in call 0) (record { status = call.answer; made = Some made; contact = contact }) made
  pub brought : call.answer ≡ Moved → WasBrought contact made
  pub load : IsLoad (owner_at call.answer) number made machine
  pub printed : PrintsLoad number machine call

-- memory ran out before a source was made: the wires weren't touched, and the line of that was printed
pub record RanOut (call : Call) : Type 0 where
  pub answer : call.answer ≡ NoMemory
  pub wires : call.now.wires ≡ call.before.wires
  pub printed : IsPrinted (status_line NoMemory) call.before.out call.now.out
