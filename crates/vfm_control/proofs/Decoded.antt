-- Bytes in which a frame is found are its bytes.
use Rattle.std.proofs.Common.{◌≡◌, ℕ, ◌^◌, ◌<◌, Bool, true, false, cond, List, ◌++◌, length, take, drop, Option, Some, None, refl, sym, ap, ◌∙◌, subst, inl, inr, arith, length-drop}
use Rattle.std.specs.Int.{w32, w64, to_be_bytes}
use Rattle.std.proofs.lemmas.Bool.{cases_eq, ne_eqb, and_parts, eqb-true}
use Rattle.std.proofs.lemmas.List.{take_all, take-append-drop, drop-drop}
use Rattle.std.proofs.Math.Seq.{take-add}
use Rattle.vfm_control.proofs.Encoded.{one_frame}
use Rattle.vfm_control.specs.declared.frame.Frame.{Frame}
use Rattle.vfm_control.specs.declared.frame.Frame.TheVariants.{Staged, Refused, Go}
use Rattle.vfm_base.specs.Words.{IsBytes, word_at}
use Rattle.vfm_control.specs.Frame.{mark, session_of, body_bytes, frame_bytes, IsDigest, refusal_bytes, refusal_at, is_spare_zero, frame_marked, frame_at, IsEncodedBy}
use Rattle.vfm_base.proofs.NumbersInBytes.{IsBytes-drop, word_32, word_64}

cond_some : (test : Bool) (o : Option Frame) (f : Frame) → cond test o None ≡ Some f → (test ≡ true) × (o ≡ Some f)
cond_some true o f e = (refl, e)
cond_some false o f e = absurd cc

-- the letters, the session and what stands after them
parts_of : (l : List ℕ) → l ≡ take 4 (drop 0 l) ++ take 8 (drop 4 l) ++ drop 12 l
parts_of l = sym (take-append-drop 12 l) ∙ ap (λ (x : List ℕ). x ++ drop 12 l) (take-add 4 8 l)

-- the 32 bytes of a refusal, field by field
body_fields : (l : List ℕ) → take 32 l ≡ (((take 4 (drop 0 l) ++ take 8 (drop 4 l)) ++ take 8 (drop 12 l)) ++ take 8 (drop 20 l)) ++ take 4 (drop 28 l)
body_fields l = rw (take-add 28 4 l, take-add 20 8 l, take-add 12 8 l, take-add 4 8 l) refl

fields : (l : List ℕ) → take 32 (drop 12 l) ≡
    (((take 4 (drop 12 l) ++ take 8 (drop 16 l)) ++ take 8 (drop 24 l)) ++ take 8 (drop 32 l)) ++ take 4 (drop 40 l)
fields l = body_fields (drop 12 l) ∙ rw (drop-drop 4 12 l, drop-drop 12 12 l, drop-drop 20 12 l, drop-drop 28 12 l) refl

-- 44 bytes that begin with a frame's letters and its session and end with its body are its bytes
encoded_by : (f : Frame) (bytes : List ℕ) → IsBytes bytes → length bytes ≡ 44
    → word_at w32 0 bytes ≡ mark f → word_at w64 4 bytes ≡ session_of f → drop 12 bytes ≡ body_bytes f → bytes ≡ frame_bytes f
unfolding frame_bytes
encoded_by f bytes fits len letters session body =
    let m = (word_32 0 bytes (omega arith) fits).0 in
    let s = (word_64 4 bytes (omega arith) fits).0 in
    parts_of bytes ∙ rw (← m, ← s, letters, session, body) refl

session_fits : (bytes : List ℕ) (session : ℕ) → IsBytes bytes → length bytes ≡ 44 → word_at w64 4 bytes ≡ session → session < 2 ^ 64
session_fits bytes session fits len is = subst (λ (s : ℕ). s < 2 ^ 64) is (word_64 4 bytes (omega arith) fits).1

digest_fits : (bytes : List ℕ) → IsBytes bytes → length bytes ≡ 44 → IsDigest (drop 12 bytes)
digest_fits bytes fits len = record { len = omega (arith, length-drop 12 bytes); bytes = IsBytes-drop 12 bytes fits }

-- with nothing after it, the body of a refusal is its bytes
refusal_body : (bytes : List ℕ) → IsBytes bytes → length bytes ≡ 44 → is_spare_zero bytes ≡ true → drop 12 bytes ≡ refusal_bytes (refusal_at bytes)
refusal_body bytes fits len zeros_behind =
    let c = (word_32 12 bytes (omega arith) fits).0 in
    let a = (word_64 16 bytes (omega arith) fits).0 in
    let b = (word_64 24 bytes (omega arith) fits).0 in
    let zeros = and_parts _ _ zeros_behind in
    let y = sym (word_64 32 bytes (omega arith) fits).0 ∙ ap (to_be_bytes w64) (eqb-true _ _ zeros.0) in
    let z = sym (word_32 40 bytes (omega arith) fits).0 ∙ ap (to_be_bytes w32) (eqb-true _ _ zeros.1) in
    sym (take_all 32 (drop 12 bytes) (omega (arith, length-drop 12 bytes))) ∙ fields bytes ∙ rw (← c, ← a, ← b, y, z) refl

abbrev Found : ℕ → List ℕ → Frame → Type 0
Found session bytes f = IsEncodedBy f session bytes

found_marked : (session : ℕ) (bytes : List ℕ) (f : Frame) → IsBytes bytes → length bytes ≡ 44 → word_at w64 4 bytes ≡ session
    → frame_marked (word_at w32 0 bytes) session bytes ≡ Some f → IsEncodedBy f session bytes
found_marked session bytes f fits len is e =
    let lt = session_fits bytes session fits len is in
    elim (cases_eq (word_at w32 0 bytes) 0x56464d53) [
      | inl staged ↦
          let digest = digest_fits bytes fits len in
          let g = Staged session (drop 12 bytes) in
          let at : Some (Staged session (drop 12 bytes)) ≡ Some f = rw staged at e in
          subst (Found session bytes) (one_frame g f at) (record {
            frame = record { session = lt; body = digest };
            of_session = refl;
            encoded = encoded_by (Staged session (drop 12 bytes)) bytes fits len staged is refl;
          })
      | inr not_staged ↦
          elim (cases_eq (word_at w32 0 bytes) 0x56464d52) [
            | inl refused ↦
                let at : cond (is_spare_zero bytes) (Some (Refused session (refusal_at bytes))) None ≡ Some f = rw refused at e in
                let parts = cond_some (is_spare_zero bytes) (Some (Refused session (refusal_at bytes))) f at in
                let c = (word_32 12 bytes (omega arith) fits).1 in
                let a = (word_64 16 bytes (omega arith) fits).1 in
                let b = (word_64 24 bytes (omega arith) fits).1 in
                subst (Found session bytes) (one_frame (Refused session (refusal_at bytes)) f parts.1) (record {
                  frame = record { session = lt; body = record { code = c; a = a; b = b } };
                  of_session = refl;
                  encoded = encoded_by (Refused session (refusal_at bytes)) bytes fits len refused is (refusal_body bytes fits len parts.0);
                })
            | inr not_refused ↦
                elim (cases_eq (word_at w32 0 bytes) 0x56464d47) [
                  | inl go ↦
                      let digest = digest_fits bytes fits len in
                      let at : Some (Go session (drop 12 bytes)) ≡ Some f = rw go at e in
                      subst (Found session bytes) (one_frame (Go session (drop 12 bytes)) f at) (record {
                        frame = record { session = lt; body = digest };
                        of_session = refl;
                        encoded = encoded_by (Go session (drop 12 bytes)) bytes fits len go is refl;
                      })
                  | inr not_go ↦
                      let none : frame_marked (word_at w32 0 bytes) session bytes ≡ None =
                      rw (ne_eqb _ _ not_staged, ne_eqb _ _ not_refused, ne_eqb _ _ not_go) refl in
                      absurd cc
                ]
          ]
    ]

pub was_encoded : (f : Frame) (session : ℕ) (bytes : List ℕ) → IsBytes bytes → frame_at session bytes ≡ Some f → IsEncodedBy f session bytes
unfolding frame_at
was_encoded f session bytes fits e =
    let parts = cond_some _ (frame_marked (word_at w32 0 bytes) session bytes) f e in
    let tests = and_parts _ _ parts.0 in
    found_marked session bytes f fits (eqb-true _ _ tests.0) (eqb-true _ _ tests.1) parts.1
