-- A frame that was encoded is found again in its bytes.
use Rattle.std.proofs.Common.{◌≡◌, ◌≢◌, ℕ, ◌^◌, ◌<◌, true, List, length, drop, Option, Some, None, refl, sym, ap, ◌∙◌, arith}
use Rattle.std.specs.Prelude.{◌==◌, ◌&&◌, unwrap_or}
use Rattle.std.specs.Int.{w32, w64}
use Rattle.std.proofs.lemmas.Bool.{and_from, eq-eqb, ne_eqb}
use Rattle.std.proofs.lemmas.Nat.{from_be_bytes-to_be_bytes_4, from_be_bytes-to_be_bytes_8}
use Rattle.vfm_types.specs.declared.fault.Refusal.{Refusal}
use Rattle.vfm_control.specs.declared.frame.Frame.{Frame}
use Rattle.vfm_control.specs.declared.frame.Frame.TheVariants.{Staged, Refused, Go}
use Rattle.vfm_base.specs.Words.{word_at}
use Rattle.vfm_control.specs.Frame.{mark, session_of, body_bytes, frame_bytes, HasBody, IsFrame, IsRefusal, refusal_at, is_spare_zero, frame_marked, frame_at, IsEncodedBy}

pub one_frame : (f g : Frame) → Some f ≡ Some g → f ≡ g
one_frame f g same = ap (λ (o : Option Frame). unwrap_or o g) same

mark_below : (f : Frame) → mark f < 2 ^ 32
mark_below (Staged session digest) = omega arith
mark_below (Refused session refusal) = omega arith
mark_below (Go session digest) = omega arith

body_len : (f : Frame) → HasBody f → length (body_bytes f) ≡ 32
body_len (Staged session digest) has = has.len
body_len (Refused session refusal) has = refl
body_len (Go session digest) has = has.len

pub length-frame_bytes : (f : Frame) → IsFrame f → length (frame_bytes f) ≡ 44
unfolding frame_bytes
length-frame_bytes f is = omega (arith, body_len f is.body)

mark_found : (f : Frame) → word_at w32 0 (frame_bytes f) ≡ mark f
unfolding frame_bytes word_at
mark_found f = from_be_bytes-to_be_bytes_4 (mark f) (mark_below f)

session_found : (f : Frame) → session_of f < 2 ^ 64 → word_at w64 4 (frame_bytes f) ≡ session_of f
unfolding frame_bytes word_at
session_found f lt = from_be_bytes-to_be_bytes_8 (session_of f) lt

body_found : (f : Frame) → drop 12 (frame_bytes f) ≡ body_bytes f
unfolding frame_bytes
body_found f = refl

refusal_found : (session : ℕ) (r : Refusal) → IsRefusal r → refusal_at (frame_bytes (Refused session r)) ≡ r
unfolding frame_bytes word_at
refusal_found session r is =
    let code = from_be_bytes-to_be_bytes_4 r.code is.code in
    let a = from_be_bytes-to_be_bytes_8 r.a is.a in
    let b = from_be_bytes-to_be_bytes_8 r.b is.b in
    rw (code, a, b) refl

spare_found : (session : ℕ) (r : Refusal) → is_spare_zero (frame_bytes (Refused session r)) ≡ true
unfolding frame_bytes word_at
spare_found session r = refl

-- the frame by its letters
marked : (f : Frame) → IsFrame f → frame_marked (mark f) (session_of f) (frame_bytes f) ≡ Some f
marked (Staged session digest) is = ap (λ (d : List ℕ). Some (Staged session d)) (body_found (Staged session digest))
marked (Refused session refusal) is =
    rw (spare_found session refusal) (ap (λ (r : Refusal). Some (Refused session r)) (refusal_found session refusal is.body))
marked (Go session digest) is = ap (λ (d : List ℕ). Some (Go session d)) (body_found (Go session digest))

pub again : (f : Frame) → IsFrame f → frame_at (session_of f) (frame_bytes f) ≡ Some f
unfolding frame_at
again f is =
    let test : (length (frame_bytes f) == 44 && word_at w64 4 (frame_bytes f) == session_of f) ≡ true =
    and_from _ _ (eq-eqb _ _ (length-frame_bytes f is)) (eq-eqb _ _ (session_found f is.session)) in
    rw (test, mark_found f) (marked f is)

-- the same of a frame that is known to be this one
pub again_at : (f g : Frame) (bytes : List ℕ) → f ≡ g → IsFrame g → bytes ≡ frame_bytes g → frame_at (session_of f) bytes ≡ Some f
again_at f g bytes is frame encoded = rw (is, encoded) (again g frame)

-- in no other session
pub elsewhere : (f : Frame) (session : ℕ) → IsFrame f → session_of f ≢ session → frame_at session (frame_bytes f) ≡ None
unfolding frame_at
elsewhere f session is other =
    let len = eq-eqb _ _ (length-frame_bytes f is) in
    rw (len, session_found f is.session, ne_eqb _ _ other) refl

pub found : (f : Frame) (session : ℕ) (bytes : List ℕ) → IsEncodedBy f session bytes → frame_at session bytes ≡ Some f
found f session bytes is =
    let at = again f is.frame in
    rw (is.encoded, ← is.of_session) at

pub once : (f g : Frame) → IsFrame f → IsFrame g → frame_bytes f ≡ frame_bytes g → f ≡ g
once f g is_f is_g same =
    let sessions : session_of f ≡ session_of g =
    sym (session_found f is_f.session) ∙ ap (word_at w64 4) same ∙ session_found g is_g.session in
    let both : Some f ≡ Some g =
    sym (again f is_f) ∙ ap (frame_at (session_of f)) same ∙ ap (λ (s : ℕ). frame_at s (frame_bytes g)) sessions ∙ again g is_g in
    one_frame f g both
