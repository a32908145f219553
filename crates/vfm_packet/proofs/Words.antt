-- The numbers of a header, in its bytes and out of them.
use Rattle.std.proofs.Common.{◌≡◌, ℕ, ◌+◌, ◌^◌, ◌<◌, ◌≤◌, List, ◌++◌, length, take, drop, refl, ap, ◌∙◌, inl, inr, arith}
use Rattle.std.specs.Int.{Width, w16, w32, w64, byte_len, from_be_bytes, to_be_bytes}
use Rattle.std.proofs.lemmas.Bool.{cases_lt}
use Rattle.std.proofs.lemmas.List.{length-take, length-drop, take-append-le, drop-append-le, get_or-drop, get_or-take, get_or_past}
use Rattle.std.proofs.lemmas.Nat.{be_bytes_2, be_bytes_4, be_bytes_8, from_be_bytes-to_be_bytes_2, from_be_bytes-to_be_bytes_4, from_be_bytes-to_be_bytes_8}
use Rattle.vfm_packet.specs.declared.header.Header.{Header}
use Rattle.vfm_base.specs.Words.{IsBytes}
use Rattle.vfm_packet.specs.Header.{kind_number, head_bytes}
use Rattle.vfm_base.specs.Words.{word_at}

-- ---- in bytes: each number of a header is found at its place

pub length-head_bytes : (h : Header) → length (head_bytes h) ≡ 40
unfolding head_bytes
length-head_bytes h = refl

pub magic_of : (h : Header) (rest : List ℕ) → word_at w32 0 (head_bytes h ++ rest) ≡ 0x56464d44
unfolding head_bytes word_at
magic_of h rest = refl

pub version_of : (h : Header) (rest : List ℕ) → h.version < 2 ^ 16 → word_at w16 4 (head_bytes h ++ rest) ≡ h.version
unfolding head_bytes word_at
version_of h rest lt = from_be_bytes-to_be_bytes_2 h.version lt

pub kind_of : (h : Header) (rest : List ℕ) → kind_number h.kind < 2 ^ 16 → word_at w16 6 (head_bytes h ++ rest) ≡ kind_number h.kind
unfolding head_bytes word_at
kind_of h rest lt = from_be_bytes-to_be_bytes_2 (kind_number h.kind) lt

pub session_of : (h : Header) (rest : List ℕ) → h.session < 2 ^ 64 → word_at w64 8 (head_bytes h ++ rest) ≡ h.session
unfolding head_bytes word_at
session_of h rest lt = from_be_bytes-to_be_bytes_8 h.session lt

pub stream_of : (h : Header) (rest : List ℕ) → h.stream < 2 ^ 32 → word_at w32 16 (head_bytes h ++ rest) ≡ h.stream
unfolding head_bytes word_at
stream_of h rest lt = from_be_bytes-to_be_bytes_4 h.stream lt

pub index_of : (h : Header) (rest : List ℕ) → h.index < 2 ^ 32 → word_at w32 20 (head_bytes h ++ rest) ≡ h.index
unfolding head_bytes word_at
index_of h rest lt = from_be_bytes-to_be_bytes_4 h.index lt

pub length_of : (h : Header) (rest : List ℕ) → h.length < 2 ^ 32 → word_at w32 24 (head_bytes h ++ rest) ≡ h.length
unfolding head_bytes word_at
length_of h rest lt = from_be_bytes-to_be_bytes_4 h.length lt

pub spare_high_of : (h : Header) (rest : List ℕ) → word_at w64 28 (head_bytes h ++ rest) ≡ 0
unfolding head_bytes word_at
spare_high_of h rest = refl

pub spare_low_of : (h : Header) (rest : List ℕ) → word_at w32 36 (head_bytes h ++ rest) ≡ 0
unfolding head_bytes word_at
spare_low_of h rest = refl
