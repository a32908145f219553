-- Steps that fail before an answer is heard: nothing else that can be seen brings another status.
use Rattle.std.proofs.Common.{◌≡◌, ◌⊎◌, ℕ, ◌<◌, ◌≤◌, ◌==◌, ◌&&◌, ◌||◌, nat_lt, Bool, true, false, List, length, Option, Some, None, IfSome, Contains, slice_get, refl, sym, ap, ◌∙◌, subst, inl, inr, IsTrue, arith}
use Rattle.std.proofs.lemmas.Bool.{true≢false}
use Rattle.std.proofs.lemmas.List.Sums.{get_or-le-sum_by}
use Rattle.std.proofs.lemmas.Option.{get_or_from_slice_get, slice_get_within}
use Rattle.std.specs.Option.{IsSomeAnd}
use Rattle.std.specs.List.{sum_by}
use Rattle.vfm_types.specs.Blocks.{is_no_pass_open}
use Rattle.vfm_types.specs.Phases.{pass_count}
use Rattle.vfm_types.specs.declared.entry.Entry.TheVariants.{Fail}
use Rattle.vfm_types.specs.declared.fault.LinkPlace.TheVariants.{Source, Destination, Control}
use Rattle.vfm_types.specs.declared.state.MigState.{MigState}
use Rattle.vfm_types.specs.Valid.{IsValid}
use Rattle.vfm_outside.specs.Counts.{Rose}
use Rattle.vfm_outside.specs.Links.{Told, ToldEnds, ends_faults, link_faults}
use Rattle.vfm_plain.specs.Report.{Made, source_past}
use Rattle.vfm_move_laws.proofs.FailedArcs.{same_fail}
use Rattle.vfm_status.specs.declared.status.Status.{Status}
use Rattle.vfm_status.specs.declared.status.Status.TheVariants.{LinkFault, Aborted, ArcFailed, NoMemory}
use Rattle.vfm_move.specs.Contact.{Line, Linked, WhereTold, told_line}
use Rattle.vfm_move.specs.Table.{GoSent, Heard, Neither, Unsaid, WentOn, answering_at, heard_at, owner_at}
use Rattle.vfm_move.specs.Carried.{AnswersAt, BringsState, HasAnswered, HasHeard, HasSaidGo}
use Rattle.vfm_move.specs.Causes.{Attempt, Brings, FailedIn, FailedOut, HasCause, IsAbortDue, YieldsTo}
use Rattle.vfm_move.specs.Complete.{IsComplete, IsToMove}
use Rattle.vfm_move.specs.Move.{AreUnheard, IsDecided, IsUnanswered, IsUnheard, IsUnhindered, NoArcFailed, came_to}
use Rattle.vfm_move.proofs.Brought.{IsBrought, due, arc, answer, go, answer_cut, brought_by, dest_line, go_cut, sent_none, source_line}
use Rattle.vfm_move.proofs.Cases.{silent, to_memory}
use Rattle.vfm_move.proofs.Failing.{described_arcs}

-- ---- links that heard less than a frame

-- a link that heard less than a frame and didn't end brings nothing that was heard
pub unheard_line : (link : Told) (line : Line) → link ≡ told_line line → IsUnheard link
    → (length line.received < 44 → line.ended ≡ true) → ⊥
unheard_line link line is unheard cut =
    true≢false (sym (cut (subst (λ (t : Told). IfSome t.received (λ xs. length xs < 44)) is unheard.received))
    ∙ subst (λ (t : Told). t.ended ≡ false) is unheard.ended)

-- ---- what brings another status

-- an abort that is due, or an arc that failed
data IsHindered (brought : Status) (attempt : Attempt) (made : Made) : Type 0 where
  by_abort : (pass : ℕ) → Aborted pass ≡ brought → IsAbortDue attempt pass made → IsHindered brought attempt made
  by_arc : (d : ℕ) (to : MigState) → ArcFailed d to ≡ brought → Contains (source_past made) (Fail d to)
      → IsHindered brought attempt made

hindered : (brought : Status) (attempt : Attempt) (made : Made) (ends : ToldEnds) → AreUnheard ends
    → IsBrought brought attempt made ends
    → IsHindered brought attempt made
hindered brought attempt made ends unheard (due pass is abort) = by_abort pass is abort
hindered brought attempt made ends unheard (arc d to is has) = by_arc d to is has
hindered brought attempt made ends unheard (answer lines result told is heard) =
    absurd (unheard_line ends.source_control lines.source_control (source_line ends lines told) unheard.source (answer_cut made lines result heard))
hindered brought attempt made ends unheard (go lines result told is heard) =
    absurd (unheard_line ends.dest_control lines.dest_control (dest_line ends lines told) unheard.dest (go_cut made lines result heard))

hinders : (brought at : Status) (attempt : Attempt) (made : Made) (ends : ToldEnds) → AreUnheard ends
    → Brings brought attempt (came_to at made ends)
    → IsHindered brought attempt made
hinders brought at attempt made ends unheard brings = hindered brought attempt made ends unheard (brought_by brought at attempt made ends brings)

-- ---- counts

pub none_rose : (n : ℕ) → n ≡ 0 → Rose 0 n → ⊥
none_rose n is rose = absurd (omega (arith, is, rose))

-- a link whose count rose isn't one of links without faults
some_failed : (links : List Told) (k : ℕ) (count : Told → ℕ) → ((link : Told) → count link ≤ link_faults link)
    → IsSomeAnd (slice_get links k) (λ link. Rose 0 (count link)) → sum_by link_faults links ≡ 0 → ⊥
some_failed links k count within some none = by_cases (slice_get links k) refl some
  where
    by_cases : (o : Option Told) → slice_get links k ≡ o → IsSomeAnd o (λ link. Rose 0 (count link)) → ⊥
    by_cases None is rose = absurd rose
    by_cases (Some link) is rose =
        let here = get_or_from_slice_get links k link link is in
        let least = get_or-le-sum_by link_faults links k link (slice_get_within links k link is) in
        let faults : link_faults link ≤ sum_by link_faults links = subst (λ (t : Told). link_faults t ≤ sum_by link_faults links) here least in
        none_rose (count link) (omega (arith, within link, faults, none)) rose

source_count : (ends : ToldEnds) → ends_faults ends ≡ 0 → sum_by link_faults ends.source ≡ 0
source_count ends none = omega (arith, none)

dest_count : (ends : ToldEnds) → ends_faults ends ≡ 0 → sum_by link_faults ends.dest ≡ 0
dest_count ends none = omega (arith, none)

-- ---- where nothing is due but what came

yields_pass : (brought : Status) (k : ℕ) (attempt : Attempt) (made : Made) → NoArcFailed made
    → IsHindered brought attempt made
    → (LinkFault (Source k) ≡ brought) ⊎ YieldsTo brought (LinkFault (Source k))
yields_pass brought k attempt made none (by_abort pass is abort) = inr (subst (λ (s : Status). YieldsTo s (LinkFault (Source k))) is tt)
yields_pass brought k attempt made none (by_arc d to is has) = absurd (none d to has)

nothing_due : (brought came : Status) (attempt : Attempt) (made : Made) → IsUnhindered attempt made
    → IsHindered brought attempt made
    → (came ≡ brought) ⊎ YieldsTo brought came
nothing_due brought came attempt made un (by_abort pass is abort) = absurd (un.no_abort_due pass abort)
nothing_due brought came attempt made un (by_arc d to is has) = absurd (un.no_arc_failed d to has)

same_pass : (brought : Status) (pass : ℕ) (attempt : Attempt) (made : Made) → NoArcFailed made
    → IsAbortDue attempt pass made
    → IsHindered brought attempt made → (Aborted pass ≡ brought) ⊎ YieldsTo brought (Aborted pass)
same_pass brought pass attempt made none abort (by_abort other is also) = inl (ap Aborted (sym abort.asked ∙ also.asked) ∙ is)
same_pass brought pass attempt made none abort (by_arc d to is has) = absurd (none d to has)

same_arc : (brought : Status) (d : ℕ) (to : MigState) (attempt : Attempt) (made : Made)
    → ((other : ℕ) (into : MigState) → Contains (source_past made) (Fail other into) → (d ≡ other) × (to ≡ into))
    → ((pass : ℕ) → IsAbortDue attempt pass made → ⊥) → IsHindered brought attempt made
    → (ArcFailed d to ≡ brought) ⊎ YieldsTo brought (ArcFailed d to)
same_arc brought d to attempt made once none (by_abort pass is abort) = absurd (none pass abort)
same_arc brought d to attempt made once none (by_arc other into is has) =
    let same = once other into has in
    inl (ap (λ (n : ℕ). ArcFailed n to) same.0 ∙ ap (λ (s : MigState). ArcFailed other s) same.1 ∙ is)

-- a pass that the run doesn't have hasn't ended
late : (pass count : ℕ) (still : Bool) → count < pass → IsTrue (nat_lt pass count || (count == pass && still)) → ⊥
late pass count still fewer passed = grind arith

still_due : (attempt : Attempt) (pass : ℕ) (made : Made) → IsAbortDue attempt pass made → IsToMove attempt made → ⊥
still_due attempt pass made abort (inl never) = absurd (omega (arith, abort.asked, abort.some, never))
still_due attempt pass made abort (inr fewer) =
    late pass (pass_count (source_past made)) (is_no_pass_open made.desc (source_past made)) (omega (arith, abort.asked, fewer)) abort.passed

-- ---- the steps

-- A step that failed before an answer was heard decides a move by its cause, where what else can be seen brings no other status.
decided : (status : Status) (attempt : Attempt) (made : Made) (ends : ToldEnds) → IsUnanswered status made ends
    → owner_at status ≡ WentOn → heard_at status ≡ Unsaid → HasCause status attempt (came_to status made ends)
    → ((brought : Status) → Brings brought attempt (came_to status made ends) → (status ≡ brought) ⊎ YieldsTo brought status)
    → WhereTold (Linked ends) (λ lines. BringsState status made lines × AnswersAt (answering_at status) made lines)
    → IsComplete attempt made (came_to status made ends) → IsDecided attempt status made ends
decided status attempt made ends un on unsaid cause exact rest complete =
    record {
      stands = un.stands;
      halfway = un.halfway;
      copied = λ neither. absurd (went_on_once (sym on ∙ neither));
      explained = record { cause = cause; exact = exact };
      carried = λ lines told. record {
        channels = un.sent lines told;
        state = (rest lines told).0;
        hands = record {
          heard = subst (λ (h : Heard). HasHeard h made lines) (sym unsaid) tt;
          go = subst (λ (g : GoSent). HasSaidGo g made lines.source_control.sent) (sym (silent status on))
              (sent_none ends.source_control lines.source_control (source_line ends lines told) un.unheard.unsaid);
          answer = (rest lines told).1;
        };
      };
      complete = complete;
    }
  where
    went_on_once : WentOn ≡ Neither → ⊥
    went_on_once same = cc

-- an arc failed
pub arc_failed : (attempt : Attempt) (made : Made) (ends : ToldEnds) (d : ℕ) (to : MigState) → IsValid made.desc
    → IsUnanswered (ArcFailed d to) made ends → Contains (source_past made) (Fail d to)
    → ((pass : ℕ) → IsAbortDue attempt pass made → ⊥)
    → IsDecided attempt (ArcFailed d to) made ends
arc_failed attempt made ends d to valid un failed none =
    decided (ArcFailed d to) attempt made ends un refl refl failed
    (λ brought brings.
    same_arc brought d to attempt made
    (λ other into has. same_fail made.desc (source_past made) d other to into un.stands.legal failed has) none
    (hinders brought (ArcFailed d to) attempt made ends un.unheard brings))
    (λ lines told. (tt, tt))
    (λ moves never quiet carry. absurd (described_arcs made d to valid un.stands.legal failed never))

-- a channel of the source failed
pub source_failed : (attempt : Attempt) (made : Made) (ends : ToldEnds) (k : ℕ)
    → IsUnanswered (LinkFault (Source k)) made ends
    → NoArcFailed made → FailedOut ends.source k → IsDecided attempt (LinkFault (Source k)) made ends
source_failed attempt made ends k un none failed =
    decided (LinkFault (Source k)) attempt made ends un refl refl failed
    (λ brought brings. yields_pass brought k attempt made none (hinders brought (LinkFault (Source k)) attempt made ends un.unheard brings))
    (λ lines told. (tt, tt))
    (λ moves never quiet carry.
    absurd (some_failed ends.source k (λ link. link.failed_out) (λ link. omega arith) failed (source_count ends quiet)))

-- a channel of the destination failed
pub dest_failed : (attempt : Attempt) (made : Made) (ends : ToldEnds) (k : ℕ)
    → IsUnanswered (LinkFault (Destination k)) made ends
    → IsUnhindered attempt made → FailedIn ends.dest k → IsDecided attempt (LinkFault (Destination k)) made ends
dest_failed attempt made ends k un none failed =
    decided (LinkFault (Destination k)) attempt made ends un refl refl failed
    (λ brought brings.
    nothing_due brought (LinkFault (Destination k)) attempt made none
    (hinders brought (LinkFault (Destination k)) attempt made ends un.unheard brings))
    (λ lines told. (tt, tt))
    (λ moves never quiet carry.
    absurd (some_failed ends.dest k (λ link. link.failed_in) (λ link. omega arith) failed (dest_count ends quiet)))

-- the answer failed to be sent
pub answer_failed : (attempt : Attempt) (made : Made) (ends : ToldEnds) → IsUnanswered (LinkFault Control) made ends
    → IsUnhindered attempt made → Rose 0 ends.dest_control.failed_out → ends.source_control.failed_in ≡ 0
    → IsDecided attempt (LinkFault Control) made ends
answer_failed attempt made ends un none failed unheard =
    decided (LinkFault Control) attempt made ends un refl refl (inl failed)
    (λ brought brings.
    nothing_due brought (LinkFault Control) attempt made none (hinders brought (LinkFault Control) attempt made ends un.unheard brings))
    (λ lines told. (
      tt,
      λ rose. absurd (none_rose lines.source_control.failed_in
          (sym (ap (λ (t : Told). t.failed_in) (source_line ends lines told)) ∙ unheard) rose),
    ))
    (λ moves never quiet carry. absurd (none_rose ends.dest_control.failed_out (omega (arith, quiet)) failed))

-- the answer wasn't heard, since the source's control link failed
pub answer_unheard : (attempt : Attempt) (made : Made) (ends : ToldEnds) → IsUnanswered (LinkFault Control) made ends
    → IsUnhindered attempt made → Rose 0 ends.source_control.failed_in
    → WhereTold (Linked ends) (λ lines. HasAnswered made lines)
    → IsDecided attempt (LinkFault Control) made ends
answer_unheard attempt made ends un none failed answered =
    decided (LinkFault Control) attempt made ends un refl refl (inr failed)
    (λ brought brings.
    nothing_due brought (LinkFault Control) attempt made none (hinders brought (LinkFault Control) attempt made ends un.unheard brings))
    (λ lines told. (tt, λ rose. answered lines told))
    (λ moves never quiet carry. absurd (none_rose ends.source_control.failed_in (omega (arith, quiet)) failed))

-- the pass has ended after which the source is to give up
pub pass_ended : (attempt : Attempt) (made : Made) (ends : ToldEnds) (pass : ℕ) → IsUnanswered (Aborted pass) made ends
    → NoArcFailed made → IsAbortDue attempt pass made → IsDecided attempt (Aborted pass) made ends
pass_ended attempt made ends pass un none abort =
    decided (Aborted pass) attempt made ends un refl refl abort
    (λ brought brings. same_pass brought pass attempt made none abort (hinders brought (Aborted pass) attempt made ends un.unheard brings))
    (λ lines told. (tt, tt)) (λ moves never quiet carry. absurd (still_due attempt pass made abort moves))

-- memory was wanting
pub memory_wanting : (attempt : Attempt) (made : Made) (ends : ToldEnds) → IsUnanswered NoMemory made ends
    → IsDecided attempt NoMemory made ends
memory_wanting attempt made ends un =
    decided NoMemory attempt made ends un refl refl tt (λ brought brings. inr (to_memory brought)) (λ lines told. (tt, tt))
    (λ moves never quiet carry. inr refl)
