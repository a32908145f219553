-- What a call on a control link hears and says, and what it answers for that.
use Rattle.std.specs.Prelude.{◌≡◌, ◌≢◌, ℕ, ◌<◌, ◌≤◌, ⊤, Bool, true, false, Option, Some, None, Result, Ok, Err, List, length}
use Rattle.vfm_base.specs.Words.{IsBytes}
use Rattle.vfm_control.specs.declared.frame.Frame.{Frame}
use Rattle.vfm_control.specs.declared.frame.Frame.TheVariants.{Staged, Refused, Go}
use Rattle.vfm_control.specs.declared.ends.Answer.{Answer}
use Rattle.vfm_control.specs.declared.ends.Answer.TheVariants as answers
use Rattle.vfm_control.specs.Frame.{frame_at}
use Rattle.vfm_outside.specs.Told.{with_appended}
use Rattle.vfm_handshake.specs.declared.fault.SettleFault.{SettleFault}
use Rattle.vfm_handshake.specs.declared.fault.SettleFault.TheVariants as settling
use Rattle.vfm_handshake.specs.declared.fault.GoFault.{GoFault}
use Rattle.vfm_handshake.specs.declared.fault.GoFault.TheVariants as going

-- what a link had received before a call and has after it, where it reports that, and whether its end had been received
-- before and has been then
pub record Receipt : Type 0 where
  pub before : Option (List ℕ)
  pub now : Option (List ℕ)
  pub had_ended : Bool
  pub ended : Bool

-- the call received these bytes: at most a frame's, and fewer only where the link ended; a whole frame's don't end it
pub record Heard (r : Receipt) (bytes : List ℕ) : Type 0 where
  pub fits : IsBytes bytes
  pub came : r.now ≡ with_appended r.before bytes
  pub most : length bytes ≤ 44
  pub cut : length bytes < 44 → r.ended ≡ true
  pub whole : length bytes ≡ 44 → r.ended ≡ r.had_ended

-- the call received these bytes, fewer than a frame's and no end, before the link failed
pub record CutShort (r : Receipt) (bytes : List ℕ) : Type 0 where
  pub came : r.now ≡ with_appended r.before bytes
  pub few : length bytes < 44
  pub ended : r.ended ≡ r.had_ended

-- it did so of some bytes
pub record IsCutShort (r : Receipt) : Type 0 where
  pub bytes : List ℕ
  pub cut : CutShort r bytes

-- the bytes are no answer of the destination: no frame of the session, or a Go
abbrev pub IsNoAnswer : Option Frame → Type 0
IsNoAnswer None = ⊤
IsNoAnswer (Some (Go session digest)) = ⊤
IsNoAnswer (Some (Staged session digest)) = ⊥
IsNoAnswer (Some (Refused session refusal)) = ⊥

-- they are no Go of the source: no frame of the session, or an answer
abbrev pub IsNoGo : Option Frame → Type 0
IsNoGo None = ⊤
IsNoGo (Some (Go session digest)) = ⊥
IsNoGo (Some (Staged session digest)) = ⊤
IsNoGo (Some (Refused session refusal)) = ⊤

-- what a source of this session and with this digest answers to these bytes
abbrev pub SettledBy : ℕ → List ℕ → List ℕ → Result ⊤ SettleFault → Type 0
SettledBy session own bytes (Ok done) = frame_at session bytes ≡ Some (Staged session own)
SettledBy session own bytes (Err settling.Link) = ⊥
SettledBy session own bytes (Err (settling.Refused refusal)) = frame_at session bytes ≡ Some (Refused session refusal)
SettledBy session own bytes (Err (settling.Unconfirmed ours theirs)) =
    (ours ≡ own) × (theirs ≢ own) × (frame_at session bytes ≡ Some (Staged session theirs))
SettledBy session own bytes (Err (settling.NoControl heard)) = (heard ≡ bytes) × IsNoAnswer (frame_at session bytes)

-- what a destination of this session that staged a state with this digest answers to these bytes
abbrev pub TakenBy : ℕ → List ℕ → List ℕ → Result ⊤ GoFault → Type 0
TakenBy session own bytes (Ok done) = frame_at session bytes ≡ Some (Go session own)
TakenBy session own bytes (Err going.Link) = ⊥
TakenBy session own bytes (Err (going.NoGo heard)) = (heard ≡ bytes) × IsNoGo (frame_at session bytes)
TakenBy session own bytes (Err (going.Other ours theirs)) =
    (ours ≡ own) × (theirs ≢ own) × (frame_at session bytes ≡ Some (Go session theirs))

-- the call heard some bytes, and answers as it does to those
pub record AnswersTo (r : Receipt) (Answers : List ℕ → Type 0) : Type 0 where
  pub bytes : List ℕ
  pub heard : Heard r bytes
  pub answers : Answers bytes

-- a source settles as it does to what it heard, or the link failed before a frame came
abbrev pub Settles : ℕ → List ℕ → Receipt → Result ⊤ SettleFault → Type 0
Settles session own r (Err settling.Link) = IsCutShort r
Settles session own r result = AnswersTo r (λ bytes. SettledBy session own bytes result)

-- a destination takes over, or doesn't, as it does to what it heard, or the link failed before a frame came
abbrev pub TakesOver : ℕ → List ℕ → Receipt → Result ⊤ GoFault → Type 0
TakesOver session own r (Err going.Link) = IsCutShort r
TakesOver session own r result = AnswersTo r (λ bytes. TakenBy session own bytes result)

-- whether an answer refuses
abbrev pub is_refusal : Answer → Bool
is_refusal (answers.Staged digest) = false
is_refusal (answers.Refused refusal) = true
