-- The calls of the real ends as steps of the pair.
use Rattle.std.proofs.Common.{◌≡◌, ◌≢◌, ℕ, Bool, true, cond, List, Option, Some, None, refl, sym, ap, ◌∙◌}
use Rattle.std.specs.Prelude.{is_some}
use Rattle.vfm_types.specs.declared.fault.Refusal.{Refusal}
use Rattle.vfm_control.specs.declared.frame.Frame.{Frame}
use Rattle.vfm_control.specs.declared.frame.Frame.TheVariants as frames
use Rattle.vfm_control.specs.declared.ends.SourceEnd.{SourceEnd}
use Rattle.vfm_control.specs.declared.ends.SourceEnd.TheVariants as source
use Rattle.vfm_control.specs.declared.ends.DestEnd.{DestEnd}
use Rattle.vfm_control.specs.declared.ends.DestEnd.TheVariants as dest
use Rattle.vfm_control.specs.declared.ends.Answer.{Answer}
use Rattle.vfm_control.specs.declared.ends.Answer.TheVariants as answers
use Rattle.vfm_control.specs.declared.ends.PairEvent.TheVariants.{Stage, Refuse, DeliverAnswer, DeliverGo, SendGo, GiveUp}
use Rattle.vfm_control.specs.Frame.{frame_at}
use Rattle.vfm_control.specs.Pair.{PairState, is_staging, has_heard, may_give_up, can_happen, happens, sends_go, source_hears, dest_hears}
use Rattle.vfm_control.specs.Calls.{answer_frame, IsAnswerOf, IsGoOf, LeadsTo}
use Rattle.vfm_control.proofs.Encoded.{one_frame, found}
use Rattle.vfm_control.proofs.Digests.{same_as_itself, not_as_another}

-- ---- what was sent is what is read

pub read_answer : (p : PairState) (session : ℕ) (bytes : List ℕ) (is : IsAnswerOf p session bytes)
    → frame_at session bytes ≡ Some (answer_frame session is.answer)
read_answer p session bytes is = found (answer_frame session is.answer) session bytes is.encoded

pub read_go : (p : PairState) (session : ℕ) (bytes : List ℕ) (is : IsGoOf p session bytes)
    → frame_at session bytes ≡ Some (frames.Go session is.digest)
read_go p session bytes is = found (frames.Go session is.digest) session bytes is.encoded

-- the answer that a frame carries
carried : Frame → Option Answer
carried (frames.Staged session digest) = Some (answers.Staged digest)
carried (frames.Refused session refusal) = Some (answers.Refused refusal)
carried (frames.Go session digest) = None

carried-answer_frame : (session : ℕ) (a : Answer) → carried (answer_frame session a) ≡ Some a
unfolding carried
carried-answer_frame session (answers.Staged digest) = refl
carried-answer_frame session (answers.Refused refusal) = refl

-- the answer that was sent is the one that was read
sent_answer : (p : PairState) (session : ℕ) (bytes : List ℕ) (a : Answer) → IsAnswerOf p session bytes
    → frame_at session bytes ≡ Some (answer_frame session a) → p.answer ≡ Some a
sent_answer p session bytes a is read =
    let same = one_frame (answer_frame session is.answer) (answer_frame session a) (sym (read_answer p session bytes is) ∙ read) in
    is.sent ∙ sym (carried-answer_frame session is.answer) ∙ ap carried same ∙ carried-answer_frame session a

-- the digest that a Go has
go_digest : List ℕ → Frame → List ℕ
go_digest other (frames.Go session digest) = digest
go_digest other _ = other

sent_go_with : (p : PairState) (session : ℕ) (bytes digest : List ℕ) → IsGoOf p session bytes
    → frame_at session bytes ≡ Some (frames.Go session digest) → p.go ≡ Some digest
unfolding go_digest
sent_go_with p session bytes digest is read =
    let same = one_frame (frames.Go session is.digest) (frames.Go session digest) (sym (read_go p session bytes is) ∙ read) in
    is.sent ∙ ap (λ (f : Frame). Some (go_digest digest f)) same

-- ---- an event that can happen leads where it says

delivers_answer : (p : PairState) (a : Answer) (s : SourceEnd) → p.answer ≡ Some a → source_hears p.source (Some a) ≡ s
    → LeadsTo p DeliverAnswer (record p { source = s })
delivers_answer p a s sent hears =
    let need : can_happen p DeliverAnswer ≡ true = ap is_some sent in
    record {
      need = need;
      step = ap (λ (b : Bool). cond b (happens p DeliverAnswer) p) need
          ∙ ap (λ (x : SourceEnd). record p { source = x }) (ap (source_hears p.source) sent ∙ hears);
    }

delivers_go : (p : PairState) (go : List ℕ) (t : DestEnd) → p.go ≡ Some go → dest_hears p.dest (Some go) ≡ t
    → LeadsTo p DeliverGo (record p { dest = t })
delivers_go p go t sent hears =
    let need : can_happen p DeliverGo ≡ true = ap is_some sent in
    record {
      need = need;
      step = ap (λ (b : Bool). cond b (happens p DeliverGo) p) need
          ∙ ap (λ (x : DestEnd). record p { dest = x }) (ap (dest_hears p.dest) sent ∙ hears);
    }

-- ---- the calls

pub settle_ok : (p : PairState) (session : ℕ) (own bytes : List ℕ) → p.source ≡ source.Offered own → IsAnswerOf p session bytes
    → frame_at session bytes ≡ Some (frames.Staged session own) → LeadsTo p DeliverAnswer (record p { source = source.Heard own })
settle_ok p session own bytes offered is read =
    delivers_answer p (answers.Staged own) (source.Heard own) (sent_answer p session bytes (answers.Staged own) is read)
    (ap (λ (s : SourceEnd). source_hears s (Some (answers.Staged own))) offered
    ∙ ap (λ (b : Bool). cond b (source.Heard own) (source.Offered own)) (same_as_itself own))

pub settle_unconfirmed : (p : PairState) (session : ℕ) (own theirs bytes : List ℕ) → p.source ≡ source.Offered own → IsAnswerOf p session bytes
    → frame_at session bytes ≡ Some (frames.Staged session theirs) → theirs ≢ own → LeadsTo p DeliverAnswer p
settle_unconfirmed p session own theirs bytes offered is read other =
    delivers_answer p (answers.Staged theirs) p.source (sent_answer p session bytes (answers.Staged theirs) is read)
    (ap (λ (s : SourceEnd). source_hears s (Some (answers.Staged theirs))) offered
    ∙ ap (λ (b : Bool). cond b (source.Heard own) (source.Offered own)) (not_as_another theirs own other)
    ∙ sym offered)

pub settle_refused : (p : PairState) (session : ℕ) (own bytes : List ℕ) (refusal : Refusal) → p.source ≡ source.Offered own → IsAnswerOf p session bytes
    → frame_at session bytes ≡ Some (frames.Refused session refusal) → LeadsTo p DeliverAnswer p
settle_refused p session own bytes refusal offered is read =
    delivers_answer p (answers.Refused refusal) p.source (sent_answer p session bytes (answers.Refused refusal) is read)
    (ap (λ (s : SourceEnd). source_hears s (Some (answers.Refused refusal))) offered ∙ sym offered)

pub go_sends : (p : PairState) (own : List ℕ) → p.source ≡ source.Heard own
    → LeadsTo p SendGo (record p { source = source.GoSent own; go = Some own })
go_sends p own heard = record {
  need = ap has_heard heard;
  step = ap (λ (s : SourceEnd). cond (has_heard s) (sends_go p s) p) heard;
}

gives_up : (p : PairState) → may_give_up p.source ≡ true → LeadsTo p GiveUp (record p { source = source.Resumed })
gives_up p may = record { need = may; step = ap (λ (b : Bool). cond b (happens p GiveUp) p) may }

pub gives_up_offered : (p : PairState) (own : List ℕ) → p.source ≡ source.Offered own → LeadsTo p GiveUp (record p { source = source.Resumed })
gives_up_offered p own offered = gives_up p (ap may_give_up offered)

pub gives_up_heard : (p : PairState) (own : List ℕ) → p.source ≡ source.Heard own → LeadsTo p GiveUp (record p { source = source.Resumed })
gives_up_heard p own heard = gives_up p (ap may_give_up heard)

pub answer_staged : (p : PairState) (digest : List ℕ) → p.dest ≡ dest.Staging
    → LeadsTo p (Stage digest) (record p { dest = dest.Staged digest; answer = Some (answers.Staged digest) })
answer_staged p digest staging =
    let need : can_happen p (Stage digest) ≡ true = ap is_staging staging in
    record { need = need; step = ap (λ (b : Bool). cond b (happens p (Stage digest)) p) need }

pub answer_refused : (p : PairState) (refusal : Refusal) → p.dest ≡ dest.Staging
    → LeadsTo p (Refuse refusal) (record p { dest = dest.Refused refusal; answer = Some (answers.Refused refusal) })
answer_refused p refusal staging =
    let need : can_happen p (Refuse refusal) ≡ true = ap is_staging staging in
    record { need = need; step = ap (λ (b : Bool). cond b (happens p (Refuse refusal)) p) need }

pub finish_ok : (p : PairState) (session : ℕ) (digest bytes : List ℕ) → p.dest ≡ dest.Staged digest → IsGoOf p session bytes
    → frame_at session bytes ≡ Some (frames.Go session digest) → LeadsTo p DeliverGo (record p { dest = dest.Running digest })
finish_ok p session digest bytes staged is read =
    delivers_go p digest (dest.Running digest) (sent_go_with p session bytes digest is read)
    (ap (λ (t : DestEnd). dest_hears t (Some digest)) staged
    ∙ ap (λ (b : Bool). cond b (dest.Running digest) (dest.Staged digest)) (same_as_itself digest))

pub finish_other : (p : PairState) (session : ℕ) (digest theirs bytes : List ℕ) → p.dest ≡ dest.Staged digest → IsGoOf p session bytes
    → frame_at session bytes ≡ Some (frames.Go session theirs) → theirs ≢ digest → LeadsTo p DeliverGo p
finish_other p session digest theirs bytes staged is read other =
    delivers_go p theirs p.dest (sent_go_with p session bytes theirs is read)
    (ap (λ (t : DestEnd). dest_hears t (Some theirs)) staged
    ∙ ap (λ (b : Bool). cond b (dest.Running digest) (dest.Staged digest)) (not_as_another theirs digest other)
    ∙ sym staged)
