-- The control frames: the one encoding of each, and the frame that some bytes are.
use Rattle.std.specs.Prelude.{◌≡◌, ℕ, ◌^◌, ◌<◌, ◌==◌, ◌&&◌, Bool, if◌then◌else◌, Option, Some, None, List, [], ◌∷◌, ◌++◌, length, drop}
use Rattle.std.specs.Int.{w32, w64, to_be_bytes}
use Rattle.vfm_types.specs.declared.fault.Refusal.{Refusal}
use Rattle.vfm_control.specs.declared.frame.Frame.{Frame}
use Rattle.vfm_control.specs.declared.frame.Frame.TheVariants.{Staged, Refused, Go}
use Rattle.vfm_base.specs.Words.{IsBytes, word_at}

-- the letters with which each frame begins, as a number: VFMS, VFMR and VFMG
abbrev pub mark : Frame → ℕ
mark (Staged session digest) = 0x56464d53
mark (Refused session refusal) = 0x56464d52
mark (Go session digest) = 0x56464d47

-- the session that a frame names
abbrev pub session_of : Frame → ℕ
session_of (Staged session digest) = session
session_of (Refused session refusal) = session
session_of (Go session digest) = session

-- the twelve bytes after a refusal
abbrev pub spare : List ℕ
spare = 0 ∷ 0 ∷ 0 ∷ 0 ∷ 0 ∷ 0 ∷ 0 ∷ 0 ∷ 0 ∷ 0 ∷ 0 ∷ 0 ∷ []

-- the 32 bytes of a refusal: its code, its two numbers and twelve zeros
abbrev pub refusal_bytes : Refusal → List ℕ
refusal_bytes r = to_be_bytes w32 r.code ++ to_be_bytes w64 r.a ++ to_be_bytes w64 r.b ++ spare

-- the 32 bytes after the session
abbrev pub body_bytes : Frame → List ℕ
body_bytes (Staged session digest) = digest
body_bytes (Refused session refusal) = refusal_bytes refusal
body_bytes (Go session digest) = digest

-- the 44 bytes of a frame: its letters, its session and its body, each number with its highest byte first
unfoldable pub frame_bytes : Frame → List ℕ
frame_bytes f = to_be_bytes w32 (mark f) ++ to_be_bytes w64 (session_of f) ++ body_bytes f

-- 32 bytes
pub record IsDigest (digest : List ℕ) : Type 0 where
  pub len : length digest ≡ 32
  pub bytes : IsBytes digest

-- each number of a refusal fits its field; any code does
pub record IsRefusal (r : Refusal) : Type 0 where
  pub code : r.code < 2 ^ 32
  pub a : r.a < 2 ^ 64
  pub b : r.b < 2 ^ 64

-- what a frame carries fits its 32 bytes
abbrev pub HasBody : Frame → Type 0
HasBody (Staged session digest) = IsDigest digest
HasBody (Refused session refusal) = IsRefusal refusal
HasBody (Go session digest) = IsDigest digest

-- a frame of the format
pub record IsFrame (f : Frame) : Type 0 where
  pub session : session_of f < 2 ^ 64
  pub body : HasBody f

-- the refusal that stands in a frame
abbrev pub refusal_at : List ℕ → Refusal
refusal_at bytes = record { code = word_at w32 12 bytes; a = word_at w64 16 bytes; b = word_at w64 24 bytes }

-- the twelve bytes after a refusal are zero
abbrev pub is_spare_zero : List ℕ → Bool
is_spare_zero bytes = word_at w64 32 bytes == 0 && word_at w32 40 bytes == 0

-- the frame of this session that begins with these letters
abbrev pub frame_marked : ℕ → ℕ → List ℕ → Option Frame
frame_marked letters session bytes =
    if letters == 0x56464d53 then Some (Staged session (drop 12 bytes)) else
    (if letters == 0x56464d52
    then (if is_spare_zero bytes then Some (Refused session (refusal_at bytes)) else None) else
    (if letters == 0x56464d47 then Some (Go session (drop 12 bytes)) else None))

-- the frame of this session that some bytes are, if they are one
unfoldable pub frame_at : ℕ → List ℕ → Option Frame
frame_at session bytes =
    if length bytes == 44 && word_at w64 4 bytes == session
    then frame_marked (word_at w32 0 bytes) session bytes else None

-- these are the bytes of this frame of this session
pub record IsEncodedBy (f : Frame) (session : ℕ) (bytes : List ℕ) : Type 0 where
  pub frame : IsFrame f
  pub of_session : session_of f ≡ session
  pub encoded : bytes ≡ frame_bytes f

-- no frame of this session has these bytes
abbrev pub IsNoFrame : ℕ → List ℕ → Type 0
IsNoFrame session bytes = (f : Frame) → IsEncodedBy f session bytes → ⊥
