-- Go that was said, and heard, or not.
use Rattle.std.proofs.Common.{◌≡◌, ℕ, ◌<◌, false, List, [], length, take, drop, Option, None, Some, IfSome, Result, Ok, Err, refl, sym, ◌∙◌, ap, subst, arith}
use Rattle.std.specs.Prelude.{IfOk, ⊤}
use Rattle.std.proofs.lemmas.List.{take-append-drop}
use Rattle.vfm_types.specs.declared.desc.Desc.{Desc}
use Rattle.vfm_types.specs.declared.entry.Entry.{Entry}
use Rattle.vfm_types.specs.declared.fault.LinkFault.{LinkFault as NotSent}
use Rattle.vfm_outside.specs.Counts.{Rose}
use Rattle.vfm_outside.specs.Links.{Told, ToldEnds}
use Rattle.vfm_outside.specs.Told.{TellsNone, with_appended, with_appended-nil}
use Rattle.vfm_control.specs.declared.frame.Frame.TheVariants.{Go}
use Rattle.vfm_control.specs.Frame.{frame_bytes}
use Rattle.vfm_core.specs.CoreState.{CoreState}
use Rattle.vfm_core.specs.Machines.{machine_in}
use Rattle.vfm_dest.specs.Finishing.{without_value}
use Rattle.vfm_dest.specs.StagedCores.{StagedState}
use Rattle.vfm_dest.specs.Stages.{core_of, digest_of}
use Rattle.vfm_handshake.specs.declared.fault.GoFault.{GoFault}
use Rattle.vfm_handshake.specs.declared.fault.GoFault.TheVariants as going
use Rattle.vfm_handshake.specs.Control.{AnswersTo, TakenBy}
use Rattle.vfm_source.specs.Moving.{past_in}
use Rattle.vfm_status.specs.declared.status.Doubt.{Doubt}
use Rattle.vfm_status.specs.declared.status.Doubt.TheVariants as doubts
use Rattle.vfm_status.specs.declared.status.Status.TheVariants.{InDoubt, Moved}
use Rattle.vfm_move.specs.Table.{FrontOfGo, GoSent, WholeGo}
use Rattle.vfm_move.specs.Carried.{HasSaidGo}
use Rattle.vfm_move.specs.Causes.{Attempt}
use Rattle.vfm_move.specs.Move.{HasEnded, IsConfirmed, IsHalfway, IsUnheard}
use Rattle.vfm_move.specs.Answered.{HasHeardGo}
use Rattle.vfm_move.proofs.Brought.{cut_unheard, new_received}
use Rattle.vfm_move.proofs.Confirmed.{go_failed, go_unread}
use Rattle.vfm_move.proofs.Ended.{left_in_doubt}
use Rattle.vfm_move.proofs.GoSaid.{still_confirmed}
use Rattle.vfm_move.proofs.Gone.{no_go_heard, other_go_heard, went_over}
use Rattle.vfm_migrate.specs.Answers.{doubt_of, receipt}
use Rattle.vfm_migrate.specs.Carrying.{IsReadyForGo}
use Rattle.vfm_migrate.specs.Committing.{Commits, HearsGo, IsTakenOver, SaysGo, made_over, with_controls}
use Rattle.vfm_migrate.specs.Offered.{made_so_far}

-- the frame that the source says
abbrev go_of : CoreState → List ℕ → List ℕ
go_of core digest = frame_bytes (Go core.desc.session digest)

-- a doubt has no state at the end and no loaded one
half : (doubt : Doubt) (core : CoreState) → IsHalfway (InDoubt doubt) (made_so_far core None)
half doubt core = record { joint = refl; loaded = refl }

few_told : (told : Option (List ℕ)) → TellsNone told → IfSome told (λ xs. length xs < 44)
few_told None none = tt
few_told (Some xs) none = rw none (omega arith)

-- of a link of which nothing was heard
quiet : (link : Told) → TellsNone link.received → link.ended ≡ false → IsUnheard link
quiet link none going_on = record { received = few_told link.received none; ended = going_on }

rose_new : (before now : ℕ) → before ≡ 0 → Rose before now → Rose 0 now
rose_new before now new rose = rw new at rose

-- Go, or a front of it, was said, and something was heard, or nothing
said : (go : GoSent) (attempt : Attempt) (core : CoreState) (digest : List ℕ) (staged : StagedState) (ends : ToldEnds) (s t d e : Told)
    (bytes came : List ℕ) → IsReadyForGo attempt core digest staged (with_controls s d ends) → t.sent ≡ with_appended s.sent bytes
    → t.received ≡ s.received → e.received ≡ with_appended d.received came → e.sent ≡ d.sent → HasSaidGo go (made_so_far core None) bytes
    → IsConfirmed go attempt (made_so_far core None) (with_controls t e ends)
said go attempt core digest staged ends s t d e bytes came ready sent heard received answer is =
    still_confirmed go attempt (made_so_far core None) (with_controls s d ends) (with_controls t e ends) bytes ready.confirmed
    (record { came = came; source = refl; dest = refl; sent = sent; heard = heard; answer = answer; received = received })
    is

-- Go failed to be sent
pub not_sent : (attempt : Attempt) (core : CoreState) (digest : List ℕ) (staged : StagedState) (ends : ToldEnds) (s t d : Told) (fault : NotSent)
    → IsReadyForGo attempt core digest staged (with_controls s d ends) → SaysGo (go_of core digest) s t (Err fault)
    → Commits attempt core (with_controls t d ends) (Err doubts.Send)
not_sent attempt core digest staged ends s t d fault ready says =
    let made = made_so_far core None in
    let count = says.sent.count in
    let front : HasSaidGo FrontOfGo made (take count (go_of core digest)) =
    record {
      rest = drop count (go_of core digest);
      is = sym (take-append-drop count (go_of core digest) ∙ ap (go_of core) ready.own);
    } in
    let confirmed = said FrontOfGo attempt core digest staged ends s t d d (take count (go_of core digest)) [] ready says.sent.sent says.received
    (sym (with_appended-nil d.received)) refl front in
    left_in_doubt attempt doubts.Send made (with_controls t d ends) ready.valid refl refl
    (go_failed attempt made (with_controls t d ends) confirmed (half doubts.Send core) (quiet d ready.unheard ready.still_open)
    (rose_new s.failed_out t.failed_out ready.sound_out says.failed))

-- Go was said whole
whole : (attempt : Attempt) (core : CoreState) (digest : List ℕ) (staged : StagedState) (ends : ToldEnds) (s t d e : Told) (came : List ℕ)
    → IsReadyForGo attempt core digest staged (with_controls s d ends) → SaysGo (go_of core digest) s t (Ok tt)
    → e.received ≡ with_appended d.received came → e.sent ≡ d.sent
    → IsConfirmed WholeGo attempt (made_so_far core None) (with_controls t e ends)
whole attempt core digest staged ends s t d e came ready says received answer =
    said WholeGo attempt core digest staged ends s t d e (go_of core digest) came ready says.sent says.received received answer
    (ap (go_of core) ready.own)

-- what was heard of Go, in the words of a move
heard_go : (attempt : Attempt) (core : CoreState) (digest : List ℕ) (staged : StagedState) (ends : ToldEnds) (s t d e : Told)
    (result : Result ⊤ GoFault) → IsReadyForGo attempt core digest staged (with_controls s d ends)
    → AnswersTo (receipt d e) (λ bytes. TakenBy (core_of staged).desc.session (digest_of staged) bytes result)
    → HasHeardGo (made_so_far core None) (with_controls t e ends) result
heard_go attempt core digest staged ends s t d e result ready answers =
    record {
      bytes = answers.bytes;
      heard = record {
        fits = answers.heard.fits;
        came = new_received d.received e answers.bytes ready.unheard answers.heard.came;
        most = answers.heard.most;
        cut = answers.heard.cut;
      };
      takes = subst (λ (own : List ℕ). TakenBy core.desc.session own answers.bytes result) ready.staged_own
          (subst (λ (D : Desc). TakenBy D.session (digest_of staged) answers.bytes result) ready.desc answers.answers);
    }

-- the destination's core is what was made there
over_as : (attempt : Attempt) (core taken : CoreState) (ends : ToldEnds) (entries : List Entry) → taken.entries ≡ entries
    → HasEnded attempt Moved (record (made_so_far core None) { destination = Some entries; final = Some (machine_in taken.world) }) ends
    → HasEnded attempt Moved (made_over core taken) ends
over_as attempt core taken ends entries same ended =
    subst (λ (entries : List Entry). HasEnded attempt Moved
    (record (made_so_far core None) { destination = Some entries; final = Some (machine_in taken.world) }) ends) (sym same) ended

-- what the destination answers to what it heard, as a move's end
abbrev pub doubted : Result CoreState GoFault → Result CoreState Doubt
doubted (Ok core) = Ok core
doubted (Err fault) = Err (doubt_of fault)

pub committed : (attempt : Attempt) (core : CoreState) (digest : List ℕ) (staged : StagedState) (ends : ToldEnds) (s t d e : Told)
    (result : Result CoreState GoFault) → IsReadyForGo attempt core digest staged (with_controls s d ends)
    → SaysGo (go_of core digest) s t (Ok tt) → HearsGo (core_of staged).desc.session (digest_of staged) d e (without_value result)
    → IfOk result (IsTakenOver (core_of staged).desc (past_in core)) → Commits attempt core (with_controls t e ends) (doubted result)
committed attempt core digest staged ends s t d e (Err going.Link) ready says hears over =
    let made = made_so_far core None in
    let cut = hears.takes.cut in
    left_in_doubt attempt doubts.Read made (with_controls t e ends) ready.valid refl refl
    (go_unread attempt made (with_controls t e ends)
    (whole attempt core digest staged ends s t d e hears.takes.bytes ready says cut.came hears.sent)
    (half doubts.Read core)
    (cut_unheard d.received e hears.takes.bytes ready.unheard cut.came cut.few (cut.ended ∙ ready.still_open))
    (rose_new d.failed_in e.failed_in ready.sound_in (hears.fault refl)))
committed attempt core digest staged ends s t d e (Err (going.NoGo heard)) ready says hears over =
    let made = made_so_far core None in
    left_in_doubt attempt (doubts.NoGo heard) made (with_controls t e ends) ready.valid refl refl
    (no_go_heard attempt made (with_controls t e ends) heard ready.valid
    (whole attempt core digest staged ends s t d e hears.takes.bytes ready says hears.takes.heard.came hears.sent)
    (half (doubts.NoGo heard) core)
    (heard_go attempt core digest staged ends s t d e (Err (going.NoGo heard)) ready hears.takes))
committed attempt core digest staged ends s t d e (Err (going.Other ours theirs)) ready says hears over =
    let made = made_so_far core None in
    left_in_doubt attempt (doubts.Other ours theirs) made (with_controls t e ends) ready.valid refl refl
    (other_go_heard attempt made (with_controls t e ends) ours theirs
    (whole attempt core digest staged ends s t d e hears.takes.bytes ready says hears.takes.heard.came hears.sent)
    (half (doubts.Other ours theirs) core)
    (heard_go attempt core digest staged ends s t d e (Err (going.Other ours theirs)) ready hears.takes))
committed attempt core digest staged ends s t d e (Ok taken) ready says hears over =
    let made = made_so_far core None in (
      over_as attempt core taken (with_controls t e ends) _ over.journal
          (went_over attempt made (with_controls t e ends) over.more (machine_in taken.world) ready.valid
          (whole attempt core digest staged ends s t d e hears.takes.bytes ready says hears.takes.heard.came hears.sent)
          (record { joint = refl; loaded = refl })
          (heard_go attempt core digest staged ends s t d e (Ok tt) ready hears.takes)
          (rw (← ready.desc) over.over)),
      over.desc ∙ ready.desc,
    )
