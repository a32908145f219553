-- What a destination says once it has staged.
use Rattle.std.specs.Prelude.{ℕ, Result, Ok, Err}
use Rattle.vfm_types.specs.declared.fault.Refusal.{Refusal}
use Rattle.vfm_control.specs.declared.frame.Frame.{Frame}
use Rattle.vfm_control.specs.declared.ends.Answer.{Answer}
use Rattle.vfm_control.specs.declared.ends.Answer.TheVariants as answers
use Rattle.vfm_control.specs.declared.ends.DestEnd.{DestEnd}
use Rattle.vfm_control.specs.declared.ends.DestEnd.TheVariants as dest
use Rattle.vfm_control.specs.declared.ends.PairEvent.{PairEvent}
use Rattle.vfm_control.specs.declared.ends.PairEvent.TheVariants.{Stage, Refuse}
use Rattle.vfm_control.specs.Calls.{answer_frame}
use Rattle.vfm_dest.specs.StagedCores.{StagedState}
use Rattle.vfm_dest.specs.declared.judging.StageFault.{StageFault}
use Rattle.vfm_dest.specs.declared.judging.StageFault.TheVariants as faults
use Rattle.vfm_dest.specs.Stages.{digest_of}

-- the refusal that is said: for a link code 12 with its channel, for want of memory code 40
abbrev pub refusal_for : StageFault → Refusal
refusal_for (faults.Refusal refusal) = refusal
refusal_for (faults.Link channel) = record { code = 12; a = channel; b = 0 }
refusal_for faults.NoMemory = record { code = 40; a = 0; b = 0 }

-- what is said of what was staged: its digest, or the refusal
abbrev pub answer_for : Result StagedState StageFault → Answer
answer_for (Ok staged) = answers.Staged (digest_of staged)
answer_for (Err fault) = answers.Refused (refusal_for fault)

-- the frame in which it is said
abbrev pub frame_for : ℕ → Result StagedState StageFault → Frame
frame_for session staged = answer_frame session (answer_for staged)

-- in the machine of both ends: the event that this is, and where the destination stands after it
abbrev pub event_for : Result StagedState StageFault → PairEvent
event_for (Ok staged) = Stage (digest_of staged)
event_for (Err fault) = Refuse (refusal_for fault)

abbrev pub end_for : Result StagedState StageFault → DestEnd
end_for (Ok staged) = dest.Staged (digest_of staged)
end_for (Err fault) = dest.Refused (refusal_for fault)
