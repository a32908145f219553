-- Go is said and heard: how a move ends once the destination has confirmed the source's machine.
use Rattle.std.specs.Prelude.{◌≡◌, ℕ, ◌∷◌, List, None, Some, ⊤, Result, Ok, Err, MatchResult, OnErr, reverse}
use Rattle.vfm_types.specs.declared.desc.Desc.{Desc}
use Rattle.vfm_types.specs.declared.entry.Entry.{Entry}
use Rattle.vfm_types.specs.declared.entry.Entry.TheVariants.{Resume}
use Rattle.vfm_types.specs.declared.fault.LinkFault.{LinkFault as NotSent}
use Rattle.vfm_outside.specs.Counts.{Rose}
use Rattle.vfm_outside.specs.Links.{Told, ToldEnds}
use Rattle.vfm_outside.specs.Told.{with_appended}
use Rattle.vfm_send.specs.Sends.{SentPrefix}
use Rattle.vfm_plain.specs.Report.{Made}
use Rattle.vfm_core.specs.CoreState.{CoreState}
use Rattle.vfm_core.specs.Machines.{machine_in}
use Rattle.vfm_handshake.specs.declared.fault.GoFault.{GoFault}
use Rattle.vfm_handshake.specs.declared.fault.GoFault.TheVariants as going
use Rattle.vfm_handshake.specs.Control.{TakesOver}
use Rattle.vfm_status.specs.declared.status.Doubt.{Doubt}
use Rattle.vfm_status.specs.declared.status.Status.TheVariants.{InDoubt, Moved}
use Rattle.vfm_move.specs.Answered.{GoesOver}
use Rattle.vfm_move.specs.Causes.{Attempt}
use Rattle.vfm_move.specs.Move.{HasEnded}
use Rattle.vfm_migrate.specs.Answers.{receipt}
use Rattle.vfm_migrate.specs.Offered.{made_so_far}

-- ---- the control links

-- The source's control link from before these bytes were said to after it.
pub record SaysGo (bytes : List ℕ) (before now : Told) (result : Result ⊤ NotSent) : Type 0 where
  pub sent : MatchResult result (λ _. now.sent ≡ with_appended before.sent bytes) (λ _. SentPrefix before.sent now.sent bytes)
  pub failed : OnErr result (Rose before.failed_out now.failed_out)
  pub received : now.received ≡ before.received

-- The destination's control link from before Go was waited for to after it.
pub record HearsGo (session : ℕ) (own : List ℕ) (before now : Told) (result : Result ⊤ GoFault) : Type 0 where
  pub takes : TakesOver session own (receipt before now) result
  pub fault : result ≡ Err going.Link → Rose before.failed_in now.failed_in
  pub sent : now.sent ≡ before.sent

-- the ends with these control links
abbrev pub with_controls : Told → Told → ToldEnds → ToldEnds
with_controls source dest ends = record ends { source_control = source; dest_control = dest }

-- ---- how it ends

-- The destination took the machine over behind this journal, newest entry first, and ran it to its end.
pub record IsTakenOver (D : Desc) (past : List Entry) (taken : CoreState) : Type 0 where
  pub more : List Entry
  pub desc : taken.desc ≡ D
  pub journal : taken.entries ≡ Resume ∷ reverse more
  pub over : GoesOver D past more (machine_in taken.world)

-- what was made where the destination took the machine over
abbrev pub made_over : CoreState → CoreState → Made
made_over source taken =
    record (made_so_far source None) {
      destination = Some taken.entries;
      final = Some (machine_in taken.world);
    }

-- The destination took the machine over; or it is in doubt who has it.
abbrev pub Commits : Attempt → CoreState → ToldEnds → Result CoreState Doubt → Type 0
Commits attempt source ends (Ok taken) = HasEnded attempt Moved (made_over source taken) ends × (taken.desc ≡ source.desc)
Commits attempt source ends (Err doubt) = HasEnded attempt (InDoubt doubt) (made_so_far source None) ends
