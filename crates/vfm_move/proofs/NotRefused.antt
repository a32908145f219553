-- A move over links that carry all that is sent is neither refused nor left in doubt for what was heard.
use Rattle.std.proofs.Common.{◌≡◌, ◌≢◌, ◌⊎◌, ℕ, ◌<◌, ◌≤◌, true, List, drop, length, slice_index, Option, Some, None, sym, ap, ◌∙◌, subst, inl, inr, arith}
use Rattle.std.specs.Option.{IsSomeAnd}
use Rattle.std.proofs.lemmas.Bool.{cases_lt}
use Rattle.std.proofs.lemmas.List.{length-map}
use Rattle.vfm_types.specs.declared.fault.Refusal.{Refusal}
use Rattle.vfm_types.specs.Deliveries.{joint_machine}
use Rattle.vfm_types.specs.Machine.{Machine}
use Rattle.vfm_types.specs.Valid.{IsValid}
use Rattle.vfm_outside.specs.Links.{Told, ToldEnds}
use Rattle.vfm_plain.specs.Report.{Made, source_past}
use Rattle.vfm_streams.specs.Verdict.{Loads, Verdict}
use Rattle.vfm_control.specs.declared.frame.Frame.TheVariants as frames
use Rattle.vfm_control.specs.Frame.{IsFrame, frame_at, frame_bytes}
use Rattle.vfm_control.proofs.Encoded.{again}
use Rattle.vfm_handshake.specs.Control.{IsNoAnswer, IsNoGo}
use Rattle.vfm_status.specs.declared.status.Doubt.TheVariants.{NoGo as NoGoCame, Other}
use Rattle.vfm_status.specs.declared.status.Status.TheVariants.{Differs, InDoubt, NoControl, Refused, Unconfirmed}
use Rattle.vfm_move.specs.Contact.{Lines, Linked, WhereTold, told_line, told_lines}
use Rattle.vfm_move.specs.Table.{WholeGo}
use Rattle.vfm_move.specs.Carried.{BringsState, HasSaidGo, go_bytes, own_digest, staged_bytes, verdict_of}
use Rattle.vfm_move.specs.Causes.{Attempt, HasCause, IsRefused}
use Rattle.vfm_move.specs.Complete.{CarryAll, IsComplete}
use Rattle.vfm_move.specs.Move.{came_to}
use Rattle.vfm_move.specs.Undisturbed.{IsCopied, IsReadAndAnswered, IsWhollyCarried}
use Rattle.vfm_move.proofs.AnswerHeard.{answer_all, go_all, go_long, own_is_digest, refused_long, staged_long}
use Rattle.vfm_move.proofs.Brought.{dest_line, linked_once, received_line, source_line}
use Rattle.vfm_move.proofs.Undisturbed.{verdict_is_joint}

-- ---- what links tell

pub wholly : (made : Made) (ends : ToldEnds) (lines : Lines) → IsReadAndAnswered made ends
    → Linked ends ≡ Linked (told_lines lines)
    → CarryAll made.desc lines → IsWhollyCarried made lines
wholly made ends lines is told carry =
    record {
      valid = is.valid;
      copied = is.copied;
      channels =
          sym (length-map lines.source told_line)
          ∙ sym (ap (λ (e : ToldEnds). length e.source) (linked_once ends (told_lines lines) told)) ∙ is.channels;
      sent = is.sent lines told;
      carry = carry;
    }

-- the channels brought the machine at the joint stop
pub brings_joint : (made : Made) (ends : ToldEnds) → IsReadAndAnswered made ends
    → WhereTold (Linked ends)
    (λ lines. CarryAll made.desc lines → IsSomeAnd made.joint (λ m. verdict_of made lines ≡ Loads m))
brings_joint made ends is lines told carry =
    subst (λ (o : Option Machine). IsSomeAnd o (λ m. verdict_of made lines ≡ Loads m)) (sym is.copied.joint)
    (verdict_is_joint made lines (wholly made ends lines is told carry) (is.answered lines told).read_out)

-- ---- frames apart

staged_same : (session : ℕ) (one other : List ℕ)
    → frame_bytes (frames.Staged session one) ≡ frame_bytes (frames.Staged session other) → one ≡ other
unfolding frame_bytes
staged_same session one other same = ap (drop {A = ℕ} 12) same

go_same : (session : ℕ) (one other : List ℕ)
    → frame_bytes (frames.Go session one) ≡ frame_bytes (frames.Go session other) → one ≡ other
unfolding frame_bytes
go_same session one other same = ap (drop {A = ℕ} 12) same

staged_not_refused : (session : ℕ) (digest : List ℕ) (why : Refusal)
    → frame_bytes (frames.Refused session why) ≡ frame_bytes (frames.Staged session digest) → ⊥
unfolding frame_bytes
staged_not_refused session digest why same =
    let fourth : 82 ≡ 83 = ap (λ (l : List ℕ). slice_index l 3) same in
    absurd (omega (arith, fourth))

-- ---- what was heard

-- the source hears its own digest where it hears a frame, or the link's end
own_heard : (made : Made) (ends : ToldEnds) (lines : Lines) (bytes : List ℕ) → IsReadAndAnswered made ends
    → Linked ends ≡ Linked (told_lines lines) → CarryAll made.desc lines → lines.source_control.received ≡ bytes
    → (44 ≤ length bytes) ⊎ (ends.source_control.ended ≡ true) → bytes ≡ staged_bytes made
own_heard made ends lines bytes is told carry came (inl whole) =
    sym came ∙ answer_all made lines (wholly made ends lines is told carry) (is.answered lines told)
    (inl (subst (λ (l : List ℕ). 44 ≤ length l) (sym came) whole))
own_heard made ends lines bytes is told carry came (inr ended) =
    sym came ∙ answer_all made lines (wholly made ends lines is told carry) (is.answered lines told)
    (inr (sym (ap (λ (t : Told). t.ended) (source_line ends lines told)) ∙ ended))

-- the destination hears Go as it was said
go_heard : (made : Made) (ends : ToldEnds) (lines : Lines) (bytes : List ℕ) → IsCopied made
    → HasSaidGo WholeGo made lines.source_control.sent
    → Linked ends ≡ Linked (told_lines lines) → CarryAll made.desc lines → lines.dest_control.received ≡ bytes
    → (44 ≤ length bytes) ⊎ (ends.dest_control.ended ≡ true) → bytes ≡ go_bytes made
go_heard made ends lines bytes copied said told carry came (inl whole) =
    sym came ∙ go_all made lines copied carry said (inl (subst (λ (l : List ℕ). 44 ≤ length l) (sym came) whole))
go_heard made ends lines bytes copied said told carry came (inr ended) =
    sym came
    ∙ go_all made lines copied carry said (inr (sym (ap (λ (t : Told). t.ended) (dest_line ends lines told)) ∙ ended))

-- fewer bytes than a frame come only where the link ended
enough : (bytes : List ℕ) (link : Told) → (length bytes < 44 → link.ended ≡ true)
    → (44 ≤ length bytes) ⊎ (link.ended ≡ true)
enough bytes link cut =
    elim (cases_lt (length bytes) 44) [
      | inl few ↦ inr (cut few)
      | inr whole ↦ inl whole
    ]

-- ---- status by status

not_refused : (made : Made) (ends : ToldEnds) (lines : Lines) (why : Refusal) → IsReadAndAnswered made ends
    → Linked ends ≡ Linked (told_lines lines) → CarryAll made.desc lines → IsRefused why made lines → ⊥
not_refused made ends lines why is told carry (inl heard) =
    let long : 44 ≤ length (frame_bytes (frames.Refused made.desc.session why)) =
    omega (arith, refused_long made.desc.session why) in
    staged_not_refused made.desc.session (own_digest made) why
    (own_heard made ends lines (frame_bytes (frames.Refused made.desc.session why)) is told carry heard (inl long))
not_refused made ends lines why is told carry (inr verdict) =
    let loads = verdict_is_joint made lines (wholly made ends lines is told carry) (is.answered lines told).read_out in
    absurd cc

pub refused_complete : (attempt : Attempt) (made : Made) (ends : ToldEnds) (why : Refusal) → IsReadAndAnswered made ends
    → HasCause (Refused why) attempt (came_to (Refused why) made ends)
    → IsComplete attempt made (came_to (Refused why) made ends)
refused_complete attempt made ends why is cause = λ moves never quiet un.
    absurd (not_refused made ends un.told.lines why is un.told.told un.carry (cause un.told.lines un.told.told))

pub unconfirmed_complete : (attempt : Attempt) (made : Made) (ends : ToldEnds) (ours theirs : List ℕ)
    → IsReadAndAnswered made ends
    → HasCause (Unconfirmed ours theirs) attempt (came_to (Unconfirmed ours theirs) made ends)
    → IsComplete attempt made (came_to (Unconfirmed ours theirs) made ends)
unconfirmed_complete attempt made ends ours theirs is cause = λ moves never quiet un.
    let came = received_line ends.source_control un.told.lines.source_control
    (frame_bytes (frames.Staged made.desc.session theirs))
    (source_line ends un.told.lines un.told.told) cause.1 in
    let long : 44 ≤ length (frame_bytes (frames.Staged made.desc.session theirs)) =
    omega (arith, staged_long made.desc.session theirs cause.0.digest.len) in
    absurd (cause.0.other
    (staged_same made.desc.session theirs (own_digest made)
    (own_heard made ends un.told.lines (frame_bytes (frames.Staged made.desc.session theirs)) is un.told.told un.carry
    came (inl long))
    ∙ sym cause.0.own))

pub no_control_complete : (attempt : Attempt) (made : Made) (ends : ToldEnds) (heard : List ℕ)
    → IsReadAndAnswered made ends
    → HasCause (NoControl heard) attempt (came_to (NoControl heard) made ends)
    → IsComplete attempt made (came_to (NoControl heard) made ends)
no_control_complete attempt made ends heard is cause = λ moves never quiet un.
    let came = received_line ends.source_control un.told.lines.source_control heard
    (source_line ends un.told.lines un.told.told) cause.came in
    let own = own_heard made ends un.told.lines heard is un.told.told un.carry came
    (enough heard ends.source_control cause.cut) in
    let frame : IsFrame (frames.Staged made.desc.session (own_digest made)) =
    record { session = is.valid.in_range.session; body = own_is_digest made is.copied } in
    absurd (subst IsNoAnswer
    (ap (frame_at made.desc.session) own ∙ again (frames.Staged made.desc.session (own_digest made)) frame) cause.other)

no_difference : (joint loaded : Option Machine) (verdict : Verdict) (m : Machine) → joint ≡ Some m → verdict ≡ Loads m
    → IsSomeAnd loaded (λ l. verdict ≡ Loads l) → IsSomeAnd joint (λ j. IsSomeAnd loaded (λ l. l ≢ j)) → ⊥
no_difference None loaded verdict m is loads brought differs = differs
no_difference (Some j) None verdict m is loads brought differs = brought
no_difference (Some j) (Some l) verdict m is loads brought differs =
    differs (same_loaded (sym brought ∙ loads ∙ ap Loads (sym (same_some is))))
  where
    same_loaded : Loads l ≡ Loads j → l ≡ j
    same_loaded e = cc

    same_some : Some j ≡ Some m → j ≡ m
    same_some e = cc

pub differs_complete : (attempt : Attempt) (made : Made) (ends : ToldEnds) → IsReadAndAnswered made ends
    → HasCause Differs attempt (came_to Differs made ends)
    → WhereTold (Linked ends) (λ lines. BringsState Differs made lines)
    → IsComplete attempt made (came_to Differs made ends)
differs_complete attempt made ends is cause brought = λ moves never quiet un.
    absurd (no_difference made.joint made.loaded (verdict_of made un.told.lines)
    (joint_machine made.desc (source_past made)) is.copied.joint
    (verdict_is_joint made un.told.lines (wholly made ends un.told.lines is un.told.told un.carry)
    (is.answered un.told.lines un.told.told).read_out)
    (brought un.told.lines un.told.told) cause)

pub no_go_complete : (attempt : Attempt) (made : Made) (ends : ToldEnds) (heard : List ℕ) → IsValid made.desc
    → IsCopied made
    → WhereTold (Linked ends) (λ lines. HasSaidGo WholeGo made lines.source_control.sent)
    → HasCause (InDoubt (NoGoCame heard)) attempt (came_to (InDoubt (NoGoCame heard)) made ends)
    → IsComplete attempt made (came_to (InDoubt (NoGoCame heard)) made ends)
no_go_complete attempt made ends heard valid copied said cause = λ moves never quiet un.
    let came = received_line ends.dest_control un.told.lines.dest_control heard
    (dest_line ends un.told.lines un.told.told) cause.came in
    let own = go_heard made ends un.told.lines heard copied (said un.told.lines un.told.told) un.told.told un.carry came
    (enough heard ends.dest_control cause.cut) in
    let frame : IsFrame (frames.Go made.desc.session (own_digest made)) =
    record { session = valid.in_range.session; body = own_is_digest made copied } in
    absurd (subst IsNoGo
    (ap (frame_at made.desc.session) own ∙ again (frames.Go made.desc.session (own_digest made)) frame) cause.other)

pub other_go_complete : (attempt : Attempt) (made : Made) (ends : ToldEnds) (ours theirs : List ℕ) → IsCopied made
    → WhereTold (Linked ends) (λ lines. HasSaidGo WholeGo made lines.source_control.sent)
    → HasCause (InDoubt (Other ours theirs)) attempt (came_to (InDoubt (Other ours theirs)) made ends)
    → IsComplete attempt made (came_to (InDoubt (Other ours theirs)) made ends)
other_go_complete attempt made ends ours theirs copied said cause = λ moves never quiet un.
    let came = received_line ends.dest_control un.told.lines.dest_control (frame_bytes
    (frames.Go made.desc.session theirs))
    (dest_line ends un.told.lines un.told.told) cause.1 in
    let long : 44 ≤ length (frame_bytes (frames.Go made.desc.session theirs)) =
    omega (arith, go_long made.desc.session theirs cause.0.digest.len) in
    absurd (cause.0.other
    (go_same made.desc.session theirs (own_digest made)
    (go_heard made ends un.told.lines (frame_bytes (frames.Go made.desc.session theirs)) copied
    (said un.told.lines un.told.told) un.told.told
    un.carry came (inl long))
    ∙ sym cause.0.own))
