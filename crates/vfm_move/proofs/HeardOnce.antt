-- To the bytes that were heard there is one answer, so what brings a status by what was heard is what was answered.
use Rattle.std.proofs.Common.{◌≡◌, ◌≢◌, ℕ, List, Option, Some, Result, Ok, Err, refl, sym, ap, ◌∙◌, subst}
use Rattle.std.specs.Prelude.{⊤}
use Rattle.vfm_types.specs.declared.fault.Refusal.{Refusal}
use Rattle.vfm_base.specs.Words.{IsBytes}
use Rattle.vfm_control.specs.declared.frame.Frame.{Frame}
use Rattle.vfm_control.specs.declared.frame.Frame.TheVariants as frames
use Rattle.vfm_control.specs.Frame.{IsFrame, frame_at, frame_bytes, session_of}
use Rattle.vfm_control.proofs.Decoded.{was_encoded}
use Rattle.vfm_control.proofs.Encoded.{again}
use Rattle.vfm_handshake.specs.declared.fault.GoFault.{GoFault}
use Rattle.vfm_handshake.specs.declared.fault.GoFault.TheVariants as going
use Rattle.vfm_handshake.specs.declared.fault.SettleFault.{SettleFault}
use Rattle.vfm_handshake.specs.declared.fault.SettleFault.TheVariants as settling
use Rattle.vfm_handshake.specs.Control.{IsNoAnswer, IsNoGo, SettledBy, TakenBy}
use Rattle.vfm_plain.specs.Report.{Made}
use Rattle.vfm_move.specs.Contact.{Lines}
use Rattle.vfm_move.specs.Carried.{own_digest, staged_bytes}
use Rattle.vfm_move.proofs.Brought.{HeardAnswer, HeardGo}

-- ---- one answer

no_answer_staged : (f : Option Frame) (session : ℕ) (digest : List ℕ) → f ≡ Some (frames.Staged session digest)
    → IsNoAnswer f → ⊥
no_answer_staged f session digest is none = subst IsNoAnswer is none

no_go_go : (f : Option Frame) (session : ℕ) (digest : List ℕ) → f ≡ Some (frames.Go session digest) → IsNoGo f → ⊥
no_go_go f session digest is none = subst IsNoGo is none

no_answer_refused : (f : Option Frame) (session : ℕ) (why : Refusal) → f ≡ Some (frames.Refused session why)
    → IsNoAnswer f → ⊥
no_answer_refused f session why is none = subst IsNoAnswer is none

one_staged : (session : ℕ) (one other : List ℕ)
    → Some (frames.Staged session one) ≡ Some (frames.Staged session other) → one ≡ other
one_staged session one other same = cc

one_go : (session : ℕ) (one other : List ℕ) → Some (frames.Go session one) ≡ Some (frames.Go session other)
    → one ≡ other
one_go session one other same = cc

one_refused : (session : ℕ) (one other : Refusal)
    → Some (frames.Refused session one) ≡ Some (frames.Refused session other) → one ≡ other
one_refused session one other same = cc

staged_or_refused : (session : ℕ) (digest : List ℕ) (why : Refusal) (f : Option Frame)
    → f ≡ Some (frames.Staged session digest)
    → f ≡ Some (frames.Refused session why) → ⊥
staged_or_refused session digest why f one other = absurd cc

pub settled_once : (session : ℕ) (own bytes : List ℕ) (first second : Result ⊤ SettleFault)
    → SettledBy session own bytes first
    → SettledBy session own bytes second → first ≡ second
settled_once session own bytes (Ok done) (Ok again) one two = refl
settled_once session own bytes (Ok done) (Err settling.Link) one two = absurd two
settled_once session own bytes (Ok done) (Err (settling.Refused why)) one two =
    absurd (staged_or_refused session own why (frame_at session bytes) one two)
settled_once session own bytes (Ok done) (Err (settling.Unconfirmed ours theirs)) one two =
    absurd (two.1 (one_staged session theirs own (sym two.2 ∙ one)))
settled_once session own bytes (Ok done) (Err (settling.NoControl heard)) one two =
    absurd (no_answer_staged (frame_at session bytes) session own one two.1)
settled_once session own bytes (Err settling.Link) second one two = absurd one
settled_once session own bytes (Err (settling.Refused why)) (Ok again) one two =
    absurd (staged_or_refused session own why (frame_at session bytes) two one)
settled_once session own bytes (Err (settling.Refused why)) (Err settling.Link) one two = absurd two
settled_once session own bytes (Err (settling.Refused why)) (Err (settling.Refused other)) one two =
    ap (λ (r : Refusal). Err (settling.Refused r)) (one_refused session why other (sym one ∙ two))
settled_once session own bytes (Err (settling.Refused why)) (Err (settling.Unconfirmed ours theirs)) one two =
    absurd (staged_or_refused session theirs why (frame_at session bytes) two.2 one)
settled_once session own bytes (Err (settling.Refused why)) (Err (settling.NoControl heard)) one two =
    absurd (no_answer_refused (frame_at session bytes) session why one two.1)
settled_once session own bytes (Err (settling.Unconfirmed ours theirs)) (Ok again) one two =
    absurd (one.1 (one_staged session theirs own (sym one.2 ∙ two)))
settled_once session own bytes (Err (settling.Unconfirmed ours theirs)) (Err settling.Link) one two = absurd two
settled_once session own bytes (Err (settling.Unconfirmed ours theirs)) (Err (settling.Refused why)) one two =
    absurd (staged_or_refused session theirs why (frame_at session bytes) one.2 two)
settled_once session own bytes (Err (settling.Unconfirmed ours theirs)) (Err (settling.Unconfirmed mine others)) one two =
    let a : ours ≡ mine = one.0 ∙ sym two.0 in
    let b : theirs ≡ others = one_staged session theirs others (sym one.2 ∙ two.2) in
    rw (a, b) refl
settled_once session own bytes (Err (settling.Unconfirmed ours theirs)) (Err (settling.NoControl heard)) one two =
    absurd (no_answer_staged (frame_at session bytes) session theirs one.2 two.1)
settled_once session own bytes (Err (settling.NoControl heard)) (Ok again) one two =
    absurd (no_answer_staged (frame_at session bytes) session own two one.1)
settled_once session own bytes (Err (settling.NoControl heard)) (Err settling.Link) one two = absurd two
settled_once session own bytes (Err (settling.NoControl heard)) (Err (settling.Refused why)) one two =
    absurd (no_answer_refused (frame_at session bytes) session why two one.1)
settled_once session own bytes (Err (settling.NoControl heard)) (Err (settling.Unconfirmed ours theirs)) one two =
    absurd (no_answer_staged (frame_at session bytes) session theirs two.2 one.1)
settled_once session own bytes (Err (settling.NoControl heard)) (Err (settling.NoControl other)) one two =
    ap (λ (xs : List ℕ). Err (settling.NoControl xs)) (one.0 ∙ sym two.0)

pub taken_once : (session : ℕ) (own bytes : List ℕ) (first second : Result ⊤ GoFault) → TakenBy session own bytes first
    → TakenBy session own bytes second → first ≡ second
taken_once session own bytes (Ok done) (Ok again) one two = refl
taken_once session own bytes (Ok done) (Err going.Link) one two = absurd two
taken_once session own bytes (Ok done) (Err (going.NoGo heard)) one two = absurd (no_go_go (frame_at session bytes) session own one two.1)
taken_once session own bytes (Ok done) (Err (going.Other ours theirs)) one two = absurd (two.1 (one_go session theirs own (sym two.2 ∙ one)))
taken_once session own bytes (Err going.Link) second one two = absurd one
taken_once session own bytes (Err (going.NoGo heard)) (Ok again) one two = absurd (no_go_go (frame_at session bytes) session own two one.1)
taken_once session own bytes (Err (going.NoGo heard)) (Err going.Link) one two = absurd two
taken_once session own bytes (Err (going.NoGo heard)) (Err (going.NoGo other)) one two =
    ap (λ (xs : List ℕ). Err (going.NoGo xs)) (one.0 ∙ sym two.0)
taken_once session own bytes (Err (going.NoGo heard)) (Err (going.Other ours theirs)) one two =
    absurd (no_go_go (frame_at session bytes) session theirs two.2 one.1)
taken_once session own bytes (Err (going.Other ours theirs)) (Ok again) one two =
    absurd (one.1 (one_go session theirs own (sym one.2 ∙ two)))
taken_once session own bytes (Err (going.Other ours theirs)) (Err going.Link) one two = absurd two
taken_once session own bytes (Err (going.Other ours theirs)) (Err (going.NoGo heard)) one two =
    absurd (no_go_go (frame_at session bytes) session theirs one.2 two.1)
taken_once session own bytes (Err (going.Other ours theirs)) (Err (going.Other mine others)) one two =
    let a : ours ≡ mine = one.0 ∙ sym two.0 in
    let b : theirs ≡ others = one_go session theirs others (sym one.2 ∙ two.2) in
    rw (a, b) refl

-- ---- what brings a status is such an answer

-- a frame is found in its bytes
found_in : (session : ℕ) (f : Frame) (bytes : List ℕ) → IsFrame f → session_of f ≡ session → bytes ≡ frame_bytes f
    → frame_at session bytes ≡ Some f
found_in session f bytes frame of_session is = rw (is, ← of_session) (again f frame)

-- the own digest was heard where the bytes are those of its frame
pub own_settled : (made : Made) (bytes : List ℕ) → IsFrame (frames.Staged made.desc.session (own_digest made))
    → bytes ≡ staged_bytes made
    → SettledBy made.desc.session (own_digest made) bytes (Ok tt)
own_settled made bytes frame is = found_in made.desc.session (frames.Staged made.desc.session (own_digest made)) bytes frame refl is

answer_settles : (made : Made) (lines : Lines) (result : Result ⊤ SettleFault)
    → IsFrame (frames.Staged made.desc.session (own_digest made))
    → HeardAnswer made lines result → SettledBy made.desc.session (own_digest made) lines.source_control.received result
answer_settles made lines (Ok done) frame heard = own_settled made lines.source_control.received frame heard.confirmed
answer_settles made lines (Err (settling.Unconfirmed ours theirs)) frame heard = (
  heard.0.own,
  subst (λ (own : List ℕ). theirs ≢ own) heard.0.own heard.0.other,
  found_in made.desc.session (frames.Staged made.desc.session theirs) lines.source_control.received
      (record { session = frame.session; body = heard.0.digest }) refl heard.1,
)
answer_settles made lines (Err (settling.NoControl came)) frame heard =
    (sym heard.came, subst (λ (xs : List ℕ). IsNoAnswer (frame_at made.desc.session xs)) (sym heard.came) heard.other)
answer_settles made lines (Err settling.Link) frame heard = absurd heard
answer_settles made lines (Err (settling.Refused why)) frame heard = absurd heard

go_takes : (made : Made) (lines : Lines) (result : Result ⊤ GoFault)
    → IsFrame (frames.Staged made.desc.session (own_digest made))
    → HeardGo made lines result → TakenBy made.desc.session (own_digest made) lines.dest_control.received result
go_takes made lines (Err (going.Other ours theirs)) frame heard = (
  heard.0.own,
  subst (λ (own : List ℕ). theirs ≢ own) heard.0.own heard.0.other,
  found_in made.desc.session (frames.Go made.desc.session theirs) lines.dest_control.received
      (record { session = frame.session; body = heard.0.digest }) refl heard.1,
)
go_takes made lines (Err (going.NoGo came)) frame heard =
    (sym heard.came, subst (λ (xs : List ℕ). IsNoGo (frame_at made.desc.session xs)) (sym heard.came) heard.other)
go_takes made lines (Err going.Link) frame heard = absurd heard
go_takes made lines (Ok done) frame heard = absurd heard

pub one_answer : (made : Made) (lines : Lines) (first second : Result ⊤ SettleFault)
    → IsFrame (frames.Staged made.desc.session (own_digest made))
    → SettledBy made.desc.session (own_digest made) lines.source_control.received first
    → HeardAnswer made lines second → first ≡ second
one_answer made lines first second frame settled heard =
    settled_once made.desc.session (own_digest made) lines.source_control.received first second settled
    (answer_settles made lines second frame heard)

pub one_taking : (made : Made) (lines : Lines) (first second : Result ⊤ GoFault)
    → IsFrame (frames.Staged made.desc.session (own_digest made))
    → TakenBy made.desc.session (own_digest made) lines.dest_control.received first → HeardGo made lines second
    → first ≡ second
one_taking made lines first second frame taken heard =
    taken_once made.desc.session (own_digest made) lines.dest_control.received first second taken
    (go_takes made lines second frame heard)

-- ---- the bytes of what was heard

pub heard_staged : (session : ℕ) (digest bytes : List ℕ) → IsBytes bytes
    → frame_at session bytes ≡ Some (frames.Staged session digest)
    → IsFrame (frames.Staged session digest) × (bytes ≡ frame_bytes (frames.Staged session digest))
heard_staged session digest bytes fits found =
    let was = was_encoded (frames.Staged session digest) session bytes fits found in (was.frame, was.encoded)

pub heard_refused : (session : ℕ) (why : Refusal) (bytes : List ℕ) → IsBytes bytes
    → frame_at session bytes ≡ Some (frames.Refused session why)
    → bytes ≡ frame_bytes (frames.Refused session why)
heard_refused session why bytes fits found = (was_encoded (frames.Refused session why) session bytes fits found).encoded

pub heard_go : (session : ℕ) (digest bytes : List ℕ) → IsBytes bytes
    → frame_at session bytes ≡ Some (frames.Go session digest)
    → IsFrame (frames.Go session digest) × (bytes ≡ frame_bytes (frames.Go session digest))
heard_go session digest bytes fits found =
    let was = was_encoded (frames.Go session digest) session bytes fits found in (was.frame, was.encoded)
