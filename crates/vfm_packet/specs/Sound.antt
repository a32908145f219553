-- Sound headers: what is expected of them, and the tests of forty bytes in their order.
use Rattle.std.specs.Prelude.{◌≡◌, ℕ, ◌<◌, ◌==◌, ◌&&◌, Bool, true, false, if◌then◌else◌, IsTrue, nat_lt, nat_le, is_some, unwrap_or, Option, Some, None, List, [], ◌∷◌, take, drop}
use Rattle.std.specs.Int.{w16, w32, w64}
use Rattle.vfm_base.specs.Words.{word_at}
use Rattle.vfm_base.specs.Tests.{Test, first_failed}
use Rattle.vfm_packet.specs.declared.header.Header.{Header}
use Rattle.vfm_packet.specs.declared.header.Kind.{Kind}
use Rattle.vfm_packet.specs.declared.header.Kind.TheVariants.{Abort}
use Rattle.vfm_packet.specs.declared.answer.Expect.{Expect}
use Rattle.vfm_packet.specs.declared.answer.Cause.{Cause}
use Rattle.vfm_packet.specs.declared.answer.Cause.TheVariants as causes
use Rattle.vfm_packet.specs.Header.{kind_of_number, carries, IsHeader}

-- a sound header: one of the grammar that says what is expected
pub record IsSound (e : Expect) (h : Header) : Type 0 where
  pub header : IsHeader h
  pub version : h.version ≡ e.version
  pub session : h.session ≡ e.session
  pub stream : IsTrue (carries h.kind) → h.stream < e.streams

-- the kind that stands in a header; where there is none, this isn't asked
abbrev pub kind_at : List ℕ → Kind
kind_at bytes = unwrap_or (kind_of_number (word_at w16 6 bytes)) Abort

-- the header that stands at the start
abbrev pub head_at : List ℕ → Header
head_at bytes = record {
  version = word_at w16 4 bytes;
  kind = kind_at bytes;
  session = word_at w64 8 bytes;
  stream = word_at w32 16 bytes;
  index = word_at w32 20 bytes;
  length = word_at w32 24 bytes;
}

-- the stream is one that there is, if the packet is of a stream
abbrev pub knows_stream : Bool → Expect → Header → Bool
knows_stream true e h = nat_lt h.stream e.streams
knows_stream false e h = true

-- the length is one that a payload can have, if there is one
abbrev pub has_length : Bool → Header → Bool
has_length true h = nat_lt 0 h.length && nat_le h.length 65536
has_length false h = true

-- stream, index and length are zero where the packet carries nothing
abbrev pub has_zeros : Bool → Header → Bool
has_zeros true h = true
has_zeros false h = h.stream == 0 && h.index == 0 && h.length == 0

-- the tests of forty bytes and of the header that they encode, in their order
abbrev pub head_tests : Expect → List ℕ → Header → List (Test Cause)
head_tests e bytes h =
    (word_at w32 0 bytes == 0x56464d44, causes.Magic)
    ∷ (h.version == e.version, causes.Version)
    ∷ (is_some (kind_of_number (word_at w16 6 bytes)), causes.Kind)
    ∷ (h.session == e.session && knows_stream (carries h.kind) e h, causes.Foreign)
    ∷ (has_length (carries h.kind) h, causes.Length)
    ∷ (word_at w64 28 bytes == 0 && word_at w32 36 bytes == 0 && has_zeros (carries h.kind) h, causes.Spare)
    ∷ []

-- why the forty bytes at the start are no sound header, if they aren't: the first test that fails
unfoldable pub head_fault : Expect → List ℕ → Option Cause
head_fault e bytes = first_failed (head_tests e bytes (head_at bytes))
