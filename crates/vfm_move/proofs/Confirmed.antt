-- Once the destination confirmed the source's own state, nothing that can be seen brings another status than what becomes of Go.
use Rattle.std.proofs.Common.{◌≡◌, ◌≢◌, Option, Some, None, Result, Ok, sym, ◌∙◌, subst, inl, refl, arith}
use Rattle.std.specs.Prelude.{⊤}
use Rattle.std.specs.Option.{IsSomeAnd}
use Rattle.vfm_types.specs.Machine.{Machine}
use Rattle.vfm_outside.specs.Counts.{Rose}
use Rattle.vfm_outside.specs.Links.{ToldEnds}
use Rattle.vfm_streams.specs.Verdict.{Verdict, Loads}
use Rattle.vfm_handshake.specs.declared.fault.GoFault.{GoFault}
use Rattle.vfm_handshake.specs.declared.fault.SettleFault.{SettleFault}
use Rattle.vfm_plain.specs.Report.{Made}
use Rattle.vfm_status.specs.declared.status.Doubt.{Doubt}
use Rattle.vfm_status.specs.declared.status.Doubt.TheVariants.{Send, Read}
use Rattle.vfm_status.specs.declared.status.Status.{Status}
use Rattle.vfm_status.specs.declared.status.Status.TheVariants.{InDoubt}
use Rattle.vfm_move.specs.Contact.{Lines, Linked, told_lines}
use Rattle.vfm_move.specs.Table.{FrontOfGo, GoSent, WholeGo, go_at}
use Rattle.vfm_move.specs.Carried.{HasSaidGo, verdict_of}
use Rattle.vfm_move.specs.Causes.{Attempt, Brings, BroughtAnother, HasCause}
use Rattle.vfm_move.specs.Complete.{IsComplete}
use Rattle.vfm_move.specs.Move.{IsConfirmed, IsDecided, IsHalfway, IsUnheard, came_to}
use Rattle.vfm_move.proofs.Brought.{IsBrought, due, arc, answer, go, HeardAnswer, HeardGo, brought_by, dest_line, go_cut, gone_status}
use Rattle.vfm_move.proofs.HeardOnce.{one_answer, own_settled}
use Rattle.vfm_move.proofs.Unanswered.{none_rose, unheard_line}

-- one verdict loads one machine
pub one_machine : (joint : Option Machine) (verdict : Verdict) (machine : Machine)
    → IsSomeAnd joint (λ m. verdict ≡ Loads m)
    → verdict ≡ Loads machine → IsSomeAnd joint (λ m. machine ≢ m) → ⊥
one_machine None verdict machine loads other differs = loads
one_machine (Some m) verdict machine loads other differs = differs (loaded_once (sym other ∙ loads))
  where
    loaded_once : Loads machine ≡ Loads m → machine ≡ m
    loaded_once same = cc

-- what a confirmed source heard is its own digest, and the machines don't differ: nothing heard there brings a status
answer_brings_none : (go_sent : GoSent) (attempt : Attempt) (made : Made) (ends : ToldEnds)
    → IsConfirmed go_sent attempt made ends → (lines : Lines)
    (result : Result ⊤ SettleFault) → Linked ends ≡ Linked (told_lines lines) → HeardAnswer made lines result → ⊥
answer_brings_none go_sent attempt made ends is lines result told heard =
    let carried = is.carried lines told in
    let same = one_answer made lines (Ok tt) result is.frame (own_settled made lines.source_control.received is.frame carried.heard) heard in
    differs carried.state (subst (λ (r : Result ⊤ SettleFault). HeardAnswer made lines r) (sym same) heard)
  where
    differs : IsSomeAnd made.joint (λ m. verdict_of made lines ≡ Loads m) → BroughtAnother made lines → ⊥
    differs state other = one_machine made.joint (verdict_of made lines) other.machine state other.brought other.another

-- Where a confirmed move brings a status, that is what was heard of Go.
pub go_brings : (brought : Status) (go_sent : GoSent) (attempt : Attempt) (made : Made) (ends : ToldEnds)
    → IsConfirmed go_sent attempt made ends
    → IsBrought brought attempt made ends
    → (lines : Lines) × (result : Result ⊤ GoFault) × (Linked ends ≡ Linked (told_lines lines)) × (gone_status result ≡ brought)
    × HeardGo made lines result
go_brings brought go_sent attempt made ends is (due pass same abort) = absurd (is.unhindered.no_abort_due pass abort)
go_brings brought go_sent attempt made ends is (arc d to same has) = absurd (is.unhindered.no_arc_failed d to has)
go_brings brought go_sent attempt made ends is (answer lines result told same heard) =
    absurd (answer_brings_none go_sent attempt made ends is lines result told heard)
go_brings brought go_sent attempt made ends is (go lines result told same heard) = (lines, result, told, same, heard)

-- and where less than a whole frame came of it, nothing brings one
unheard_brings_none : (brought at : Status) (go_sent : GoSent) (attempt : Attempt) (made : Made) (ends : ToldEnds)
    → IsConfirmed go_sent attempt made ends → IsUnheard ends.dest_control
    → Brings brought attempt (came_to at made ends) → ⊥
unheard_brings_none brought at go_sent attempt made ends is unheard brings =
    let came = go_brings brought go_sent attempt made ends is (brought_by brought at attempt made ends brings) in
    unheard_line ends.dest_control came.0.dest_control (dest_line ends came.0 came.2) unheard (go_cut made came.0 came.1 came.4)

-- A confirmed move is decided in doubt by what became of Go, where nothing else brings a status.
pub doubted : (doubt : Doubt) (go_sent : GoSent) (attempt : Attempt) (made : Made) (ends : ToldEnds)
    → go_at (InDoubt doubt) ≡ go_sent
    → IsConfirmed go_sent attempt made ends → IsHalfway (InDoubt doubt) made
    → HasCause (InDoubt doubt) attempt (came_to (InDoubt doubt) made ends)
    → ((brought : Status) → Brings brought attempt (came_to (InDoubt doubt) made ends) → InDoubt doubt ≡ brought)
    → IsComplete attempt made (came_to (InDoubt doubt) made ends) → IsDecided attempt (InDoubt doubt) made ends
doubted doubt go_sent attempt made ends sends is half cause exact complete =
    record {
      stands = is.stands;
      halfway = half;
      copied = λ neither. is.copied;
      explained = record { cause = cause; exact = λ brought brings. inl (exact brought brings) };
      carried = λ lines told.
          let carried = is.carried lines told in
          record {
            channels = carried.channels;
            state = tt;
            hands = record {
              heard = carried.heard;
              go = subst (λ (g : GoSent). HasSaidGo g made lines.source_control.sent) (sym sends) carried.said;
              answer = carried.answered;
            };
          };
      complete = complete;
    }

-- Go failed to be sent
pub go_failed : (attempt : Attempt) (made : Made) (ends : ToldEnds) → IsConfirmed FrontOfGo attempt made ends
    → IsHalfway (InDoubt Send) made → IsUnheard ends.dest_control → Rose 0 ends.source_control.failed_out
    → IsDecided attempt (InDoubt Send) made ends
go_failed attempt made ends is half unheard failed =
    doubted Send FrontOfGo attempt made ends refl is half failed
    (λ brought brings. absurd (unheard_brings_none brought (InDoubt Send) FrontOfGo attempt made ends is unheard brings))
    (λ moves never quiet carry. absurd (none_rose ends.source_control.failed_out (omega (arith, quiet)) failed))

-- the destination's control link failed before a whole frame came
pub go_unread : (attempt : Attempt) (made : Made) (ends : ToldEnds) → IsConfirmed WholeGo attempt made ends
    → IsHalfway (InDoubt Read) made → IsUnheard ends.dest_control → Rose 0 ends.dest_control.failed_in
    → IsDecided attempt (InDoubt Read) made ends
go_unread attempt made ends is half unheard failed =
    doubted Read WholeGo attempt made ends refl is half failed
    (λ brought brings. absurd (unheard_brings_none brought (InDoubt Read) WholeGo attempt made ends is unheard brings))
    (λ moves never quiet carry. absurd (none_rose ends.dest_control.failed_in (omega (arith, quiet)) failed))
