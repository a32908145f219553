-- The machine of both ends: what each event needs, what it does, and where a list of events leads.
use Rattle.std.specs.Prelude.{◌≡◌, ℕ, Bool, true, false, if◌then◌else◌, IsTrue, is_some, Option, Some, None, List, [], ◌∷◌, ◌++◌}
use Rattle.std.specs.Str.{bytes_eq}
use Rattle.vfm_control.specs.declared.ends.SourceEnd.{SourceEnd}
use Rattle.vfm_control.specs.declared.ends.SourceEnd.TheVariants as source
use Rattle.vfm_control.specs.declared.ends.DestEnd.{DestEnd}
use Rattle.vfm_control.specs.declared.ends.DestEnd.TheVariants as dest
use Rattle.vfm_control.specs.declared.ends.Answer.{Answer}
use Rattle.vfm_control.specs.declared.ends.Answer.TheVariants as answers
use Rattle.vfm_control.specs.declared.ends.PairEvent.{PairEvent}
use Rattle.vfm_control.specs.declared.ends.PairEvent.TheVariants.{Stage, Refuse, DeliverAnswer, DeliverGo, SendGo, GiveUp, StopSource, StopDest}

-- both ends, the answer that the destination has sent, and the digest with which the source has sent Go
pub record PairState : Type 0 where
  pub source : SourceEnd
  pub dest : DestEnd
  pub answer : Option Answer
  pub go : Option (List ℕ)

-- a source that has offered a state with this digest, a destination that stages, and no frame sent
abbrev pub pair_start : List ℕ → PairState
pair_start own = record { source = source.Offered own; dest = dest.Staging; answer = None; go = None }

-- the destination takes the state in, and has answered nothing
abbrev pub is_staging : DestEnd → Bool
is_staging dest.Staging = true
is_staging _ = false

-- the source has heard its own digest
abbrev pub has_heard : SourceEnd → Bool
has_heard (source.Heard own) = true
has_heard _ = false

-- the source hasn't sent Go, and neither runs nor is gone
abbrev pub may_give_up : SourceEnd → Bool
may_give_up (source.Offered own) = true
may_give_up (source.Heard own) = true
may_give_up _ = false

-- the need of an event
abbrev pub can_happen : PairState → PairEvent → Bool
can_happen p (Stage digest) = is_staging p.dest
can_happen p (Refuse refusal) = is_staging p.dest
can_happen p DeliverAnswer = is_some p.answer
can_happen p DeliverGo = is_some p.go
can_happen p SendGo = has_heard p.source
can_happen p GiveUp = may_give_up p.source
can_happen p StopSource = true
can_happen p StopDest = true

-- a source that an answer reaches: one that has offered a state hears its own digest, and nothing else moves it
abbrev pub source_hears : SourceEnd → Option Answer → SourceEnd
source_hears (source.Offered own) (Some (answers.Staged digest)) =
    if bytes_eq digest own then source.Heard own else source.Offered own
source_hears end _ = end

-- a destination that Go reaches: one that has staged the very digest runs, and nothing else moves it
abbrev pub dest_hears : DestEnd → Option (List ℕ) → DestEnd
dest_hears (dest.Staged digest) (Some go) =
    if bytes_eq go digest then dest.Running digest else dest.Staged digest
dest_hears end _ = end

-- what the source does: it sends Go with its own digest
abbrev pub sends_go : PairState → SourceEnd → PairState
sends_go p (source.Heard own) = record p { source = source.GoSent own; go = Some own }
sends_go p _ = p

-- what an event does where its need holds
abbrev pub happens : PairState → PairEvent → PairState
happens p (Stage digest) = record p { dest = dest.Staged digest; answer = Some (answers.Staged digest) }
happens p (Refuse refusal) = record p { dest = dest.Refused refusal; answer = Some (answers.Refused refusal) }
happens p DeliverAnswer = record p { source = source_hears p.source p.answer }
happens p DeliverGo = record p { dest = dest_hears p.dest p.go }
happens p SendGo = sends_go p p.source
happens p GiveUp = record p { source = source.Resumed }
happens p StopSource = record p { source = source.Stopped }
happens p StopDest = record p { dest = dest.Stopped }

-- one event: it happens where its need holds, else nothing does
abbrev pub pair_step : PairState → PairEvent → PairState
pair_step p event = if can_happen p event then happens p event else p

-- where a list of events leads, the newest first
unfoldable pub pair_after : List ℕ → List PairEvent → PairState
pair_after own [] = pair_start own
pair_after own (event ∷ past) = pair_step (pair_after own past) event

-- the event stands in the list, and its need held there
pub record HasHappened (own : List ℕ) (event : PairEvent) (events : List PairEvent) : Type 0 where
  pub later : List PairEvent
  pub earlier : List PairEvent
  pub place : events ≡ later ++ event ∷ earlier
  pub need : IsTrue (can_happen (pair_after own earlier) event)

-- the machine runs at the source again
abbrev pub SourceRuns : List ℕ → List PairEvent → Type 0
SourceRuns own events = (pair_after own events).source ≡ source.Resumed

-- the machine runs at the destination, which staged it with this digest
abbrev pub DestRuns : List ℕ → List PairEvent → List ℕ → Type 0
DestRuns own events digest = (pair_after own events).dest ≡ dest.Running digest

-- the destination stages the source's own digest, and each frame arrives
abbrev pub undisturbed_events : List ℕ → List PairEvent
undisturbed_events own = DeliverGo ∷ SendGo ∷ DeliverAnswer ∷ Stage own ∷ []
