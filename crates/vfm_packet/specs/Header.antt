-- The header of a packet: its kinds, its one encoding, and which headers there are.
use Rattle.std.specs.Prelude.{◌≡◌, ℕ, ◌^◌, ◌<◌, ◌≤◌, ◌==◌, Bool, true, false, if◌then◌else◌, Option, Some, None, List, [], ◌∷◌, ◌++◌, slice_index}
use Rattle.std.specs.Int.{w16, w32, w64, to_be_bytes}
use Rattle.vfm_base.specs.Words.{IsBytes}
use Rattle.vfm_packet.specs.declared.header.Header.{Header}
use Rattle.vfm_packet.specs.declared.header.Kind.{Kind}
use Rattle.vfm_packet.specs.declared.header.Kind.TheVariants.{Data, Config, End, Abort}

-- the number of a kind in a header
abbrev pub kind_number : Kind → ℕ
kind_number Data = 1
kind_number Config = 2
kind_number End = 3
kind_number Abort = 4

-- the kind with a number, if there is one
abbrev pub kind_of_number : ℕ → Option Kind
kind_of_number n =
    if n == 1 then Some Data else
    (if n == 2 then Some Config else
    (if n == 3 then Some End else
    (if n == 4 then Some Abort else None)))

-- data and config packets carry a payload, end and abort packets don't
abbrev pub carries : Kind → Bool
carries Data = true
carries Config = true
carries End = false
carries Abort = false

-- the letters VFMD, with which each packet begins
abbrev pub magic : List ℕ
magic = 0x56 ∷ 0x46 ∷ 0x4d ∷ 0x44 ∷ []

-- the twelve bytes that end a header
abbrev pub spare : List ℕ
spare = 0 ∷ 0 ∷ 0 ∷ 0 ∷ 0 ∷ 0 ∷ 0 ∷ 0 ∷ 0 ∷ 0 ∷ 0 ∷ 0 ∷ []

-- the forty bytes of a header: each number with its highest byte first
unfoldable pub head_bytes : Header → List ℕ
head_bytes h =
    magic ++ to_be_bytes w16 h.version ++ to_be_bytes w16 (kind_number h.kind) ++ to_be_bytes w64 h.session
    ++ to_be_bytes w32 h.stream ++ to_be_bytes w32 h.index ++ to_be_bytes w32 h.length ++ spare

-- a payload has 1 to 65,536 bytes; a packet that carries none has no stream, no index and no length
abbrev pub HasHeaderShape : Bool → Header → Type 0
HasHeaderShape true h = (0 < h.length) × (h.length ≤ 65536)
HasHeaderShape false h = (h.stream ≡ 0) × (h.index ≡ 0) × (h.length ≡ 0)

-- the versions of the format that there are
abbrev pub IsVersion : ℕ → Type 0
IsVersion version = (1 ≤ version) × (version ≤ 2)

-- a header of the grammar: of a version that there is, each number fits its field, and the kind goes with the rest
pub record IsHeader (h : Header) : Type 0 where
  pub version : IsVersion h.version
  pub session : h.session < 2 ^ 64
  pub stream : h.stream < 2 ^ 32
  pub index : h.index < 2 ^ 32
  pub shape : HasHeaderShape (carries h.kind) h
