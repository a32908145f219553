-- How decided moves end: in doubt; over links, whatever the wires did; and without links.
use Rattle.std.proofs.Common.{◌≡◌, ℕ, List, [], Option, Some, None, is_some, unwrap_or, IfSome, Contains, reverse, refl, sym, ap, ◌∙◌, subst, inr, ◌++◌, append-nil, arith}
use Rattle.std.proofs.lemmas.Bool.{true≢false}
use Rattle.std.proofs.lemmas.List.{reverse-reverse}
use Rattle.vfm_types.specs.declared.desc.Desc.{Desc}
use Rattle.vfm_types.specs.declared.entry.Entry.{Entry}
use Rattle.vfm_types.specs.declared.entry.Entry.TheVariants.{Fail}
use Rattle.vfm_types.specs.declared.fault.LinkPlace.TheVariants.{Connect}
use Rattle.vfm_types.specs.declared.state.MigState.{MigState}
use Rattle.vfm_types.specs.Deliveries.{before_joint, delivers}
use Rattle.vfm_types.specs.Machine.{Machine}
use Rattle.vfm_types.specs.Requests.{plain}
use Rattle.vfm_types.specs.Valid.{IsValid}
use Rattle.vfm_outside.specs.Links.{ToldEnds}
use Rattle.vfm_outside.specs.Told.{with_appended}
use Rattle.vfm_plain.specs.Clean.{IsClean}
use Rattle.vfm_plain.specs.Legal.{IsLegal}
use Rattle.vfm_plain.specs.Report.{Made, journal, past, source_past}
use Rattle.vfm_status.specs.declared.status.Doubt.{Doubt}
use Rattle.vfm_status.specs.declared.status.Doubt.TheVariants.{Send, Read, NoGo as NoGoCame, Other}
use Rattle.vfm_status.specs.declared.status.Status.{Status}
use Rattle.vfm_status.specs.declared.status.Status.TheVariants.{Aborted, ArcFailed, Differs, InDoubt, LinkFault, NoControl, NoMemory, Unconfirmed}
use Rattle.vfm_move.specs.Contact.{Failed, Linked, Untouched, told_lines}
use Rattle.vfm_move.specs.Table.{HasParts}
use Rattle.vfm_move.specs.Headline.{IsSafeRun}
use Rattle.vfm_move.specs.Causes.{Attempt, Brings, IsAbortDue, IsExplained, has_passed}
use Rattle.vfm_move.specs.Move.{GoesOn, HasEnded, IsDecided, IsHalfway, IsMoveOf, WiresDid, asked_by, came_to}
use Rattle.vfm_move.specs.Answered.{gone_alone, nothing_made, without_links}
use Rattle.vfm_move.proofs.Cases.{failed_none, none_passed, to_memory}
use Rattle.vfm_move.proofs.GivenUp.{fail_back, joint_same, joint_stands, kept, parts_on, passed_same, safe_on}

-- ---- in doubt

-- without a journal of the destination there is the source's alone
source_alone : (made : Made) → made.destination ≡ None → past made ≡ source_past made
source_alone made none =
    ap (λ (o : Option (List Entry)). reverse (made.source ++ unwrap_or o [])) none ∙ ap reverse (append-nil made.source)

doubt_parts : (doubt : Doubt) (made : Made) → made.destination ≡ None → made.final ≡ None
    → IsHalfway (InDoubt doubt) made
    → HasParts (InDoubt doubt) made
doubt_parts doubt made none no_end half =
    let joint = ap is_some half.joint ∙ joint_same made.desc (source_past made) in
    rw (joint, half.loaded, none, no_end) refl

doubt_safe : (attempt : Attempt) (doubt : Doubt) (made : Made) (ends : ToldEnds) → IsValid made.desc
    → made.destination ≡ None
    → made.final ≡ None → IsDecided attempt (InDoubt doubt) made ends → IsSafeRun (InDoubt doubt) made
doubt_safe attempt doubt made ends valid none no_end decided =
    let alone = sym (source_alone made none) in
    record {
      run = record {
        legal = subst (λ (l : List Entry). IsLegal made.desc l) alone decided.stands.legal;
        clean = subst (λ (l : List Entry). IsClean made.desc l) alone decided.stands.clean;
      };
      states = record {
        joint = subst
            (λ (o : Option Machine). IfSome o (λ m. plain made.desc (delivers (before_joint made.source)) ≡ Some m))
            (sym decided.halfway.joint) (joint_stands made valid decided.stands.legal);
        final = subst (λ (o : Option Machine). IfSome o (λ m. plain made.desc (delivers (journal made)) ≡ Some m)) (sym no_end) tt;
      };
      owner = record {
        copied = decided.copied refl;
        not_aborted = decided.stands.not_aborted;
        not_taken_over = none;
      };
    }

pub left_in_doubt : (attempt : Attempt) (doubt : Doubt) (made : Made) (ends : ToldEnds) → IsValid made.desc
    → made.destination ≡ None → made.final ≡ None → IsDecided attempt (InDoubt doubt) made ends
    → HasEnded attempt (InDoubt doubt) made ends
left_in_doubt attempt doubt made ends valid none no_end decided =
    record {
      parts = doubt_parts doubt made none no_end decided.halfway;
      safe = doubt_safe attempt doubt made ends valid none no_end decided;
      explained = decided.explained;
      carried = decided.carried;
      complete = decided.complete;
    }

-- ---- over links

pub is_move : (attempt : Attempt) (status : Status) (made : Made) (ends : ToldEnds) → IsValid made.desc
    → WiresDid (Linked ends) made.desc.channels attempt.before attempt.now
    → attempt.now.asked ≡ with_appended attempt.before.asked (asked_by (Linked ends) made.desc.channels)
    → HasEnded attempt status made ends → IsMoveOf attempt (came_to status made ends) made
is_move attempt status made ends valid wires connected ended =
    record {
      valid = valid;
      wires = wires;
      connected = connected;
      parts = ended.parts;
      safe = ended.safe;
      carried = ended.carried;
      complete = ended.complete;
    }

pub is_explained : (attempt : Attempt) (status : Status) (made : Made) (ends : ToldEnds)
    → HasEnded attempt status made ends
    → IsExplained attempt (came_to status made ends)
is_explained attempt status made ends ended = ended.explained

-- ---- without links

nothing_in : {X : Type 0} (x : X) → Contains [] x → ⊥
nothing_in x (k, inside, same) = absurd (omega (arith, inside))

-- a source that gave up before all else has no pass that ended, and no arc that failed
no_abort_due : (attempt : Attempt) (pass : ℕ) (D : Desc) (later : List Entry) (final : Machine)
    → GoesOn D [] later final
    → IsAbortDue attempt pass (gone_alone D later final) → ⊥
no_abort_due attempt pass D later final goes due =
    let same = ap (λ (l : List Entry). has_passed D pass l) (reverse-reverse later) ∙ passed_same D pass [] later (kept D [] later final goes) in
    true≢false (sym due.passed ∙ same ∙ none_passed D pass due.some)

no_arc_failed : (D : Desc) (later : List Entry) (final : Machine) (d : ℕ) (to : MigState) → GoesOn D [] later final
    → Contains (source_past (gone_alone D later final)) (Fail d to) → ⊥
no_arc_failed D later final d to goes has =
    nothing_in (Fail d to)
    (fail_back D [] later final d to goes (subst (λ (l : List Entry). Contains l (Fail d to)) (reverse-reverse later) has))

failed_brings_none : (brought : Status) (attempt : Attempt) (D : Desc) (later : List Entry) (final : Machine)
    → GoesOn D [] later final
    → Brings brought attempt (without_links (LinkFault Connect) (gone_alone D later final) Failed) → ⊥
failed_brings_none (Unconfirmed ours theirs) attempt D later final goes brings = failed_none brings.0
failed_brings_none (NoControl heard) attempt D later final goes brings = failed_none brings.0
failed_brings_none Differs attempt D later final goes brings = failed_none brings.0
failed_brings_none (InDoubt (NoGoCame heard)) attempt D later final goes brings = failed_none brings.0
failed_brings_none (InDoubt (Other ours theirs)) attempt D later final goes brings = failed_none brings.0
failed_brings_none (InDoubt Send) attempt D later final goes brings = brings
failed_brings_none (InDoubt Read) attempt D later final goes brings = brings
failed_brings_none (Aborted pass) attempt D later final goes brings = no_abort_due attempt pass D later final goes brings
failed_brings_none (ArcFailed d to) attempt D later final goes brings = no_arc_failed D later final d to goes brings
failed_brings_none brought attempt D later final goes brings = brings

pub failed_wires_explain : (attempt : Attempt) (D : Desc) (later : List Entry) (final : Machine)
    → WiresDid Failed D.channels attempt.before attempt.now → GoesOn D [] later final
    → IsExplained attempt (without_links (LinkFault Connect) (gone_alone D later final) Failed)
failed_wires_explain attempt D later final wires goes =
    record { cause = (refl, wires.1); exact = λ brought brings. absurd (failed_brings_none brought attempt D later final goes brings) }

pub failed_wires_move : (attempt : Attempt) (D : Desc) (later : List Entry) (final : Machine) → IsValid D
    → WiresDid Failed D.channels attempt.before attempt.now
    → attempt.now.asked ≡ with_appended attempt.before.asked (asked_by Failed D.channels) → GoesOn D [] later final
    → IsMoveOf attempt (without_links (LinkFault Connect) (gone_alone D later final) Failed) (gone_alone D later final)
failed_wires_move attempt D later final valid wires connected goes =
    let half : IsHalfway (LinkFault Connect) (nothing_made D) = record { joint = refl; loaded = refl } in
    record {
      valid = valid;
      wires = wires;
      connected = connected;
      parts = parts_on (LinkFault Connect) (nothing_made D) later final refl half (kept D [] later final goes);
      safe = safe_on (LinkFault Connect) (nothing_made D) later final valid refl half goes;
      carried = λ lines told. absurd (no_links (told_lines lines) told);
      complete = λ moves never quiet carry. absurd quiet;
    }
  where
    no_links : (ends : ToldEnds) → Failed ≡ Linked ends → ⊥
    no_links ends told = cc

pub no_memory_explains : (attempt : Attempt) (D : Desc) (later : List Entry) (final : Machine)
    → IsExplained attempt (without_links NoMemory (gone_alone D later final) Untouched)
no_memory_explains attempt D later final = record { cause = tt; exact = λ brought brings. inr (to_memory brought) }

pub no_memory_moves : (attempt : Attempt) (D : Desc) (later : List Entry) (final : Machine) → IsValid D
    → WiresDid Untouched D.channels attempt.before attempt.now
    → attempt.now.asked ≡ with_appended attempt.before.asked (asked_by Untouched D.channels) → GoesOn D [] later final
    → IsMoveOf attempt (without_links NoMemory (gone_alone D later final) Untouched) (gone_alone D later final)
no_memory_moves attempt D later final valid wires connected goes =
    let half : IsHalfway NoMemory (nothing_made D) = record { joint = refl; loaded = refl } in
    record {
      valid = valid;
      wires = wires;
      connected = connected;
      parts = parts_on NoMemory (nothing_made D) later final refl half (kept D [] later final goes);
      safe = safe_on NoMemory (nothing_made D) later final valid refl half goes;
      carried = λ lines told. absurd (no_links (told_lines lines) told);
      complete = λ moves never quiet carry. inr refl;
    }
  where
    no_links : (ends : ToldEnds) → Untouched ≡ Linked ends → ⊥
    no_links ends told = cc
