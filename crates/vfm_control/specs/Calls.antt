-- The calls of the real ends as steps of the pair: what each is, where what it read was sent by the other end.
use Rattle.std.specs.Prelude.{◌≡◌, ℕ, IsTrue, Some, List}
use Rattle.vfm_control.specs.declared.frame.Frame.{Frame}
use Rattle.vfm_control.specs.declared.frame.Frame.TheVariants as frames
use Rattle.vfm_control.specs.declared.ends.Answer.{Answer}
use Rattle.vfm_control.specs.declared.ends.Answer.TheVariants as answers
use Rattle.vfm_control.specs.declared.ends.PairEvent.{PairEvent}
use Rattle.vfm_control.specs.Frame.{IsEncodedBy}
use Rattle.vfm_control.specs.Pair.{PairState, can_happen, pair_step}

-- the frame that carries an answer in a session
abbrev pub answer_frame : ℕ → Answer → Frame
answer_frame session (answers.Staged digest) = frames.Staged session digest
answer_frame session (answers.Refused refusal) = frames.Refused session refusal

-- these are the bytes of the answer that the destination of this pair has sent
pub record IsAnswerOf (p : PairState) (session : ℕ) (bytes : List ℕ) : Type 0 where
  pub answer : Answer
  pub sent : p.answer ≡ Some answer
  pub encoded : IsEncodedBy (answer_frame session answer) session bytes

-- these are the bytes of the Go that the source of this pair has sent
pub record IsGoOf (p : PairState) (session : ℕ) (bytes : List ℕ) : Type 0 where
  pub digest : List ℕ
  pub sent : p.go ≡ Some digest
  pub encoded : IsEncodedBy (frames.Go session digest) session bytes

-- the event can happen, and leads to this
pub record LeadsTo (p : PairState) (event : PairEvent) (after : PairState) : Type 0 where
  pub need : IsTrue (can_happen p event)
  pub step : pair_step p event ≡ after
