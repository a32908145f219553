-- What stands at the start of some bytes: a packet, less than one, no sound header, or a packet with another seal.
use Rattle.std.specs.Prelude.{◌≡◌, ℕ, ◌+◌, ◌<◌, ◌≤◌, ◌⊎◌, Bool, true, false, if◌then◌else◌, nat_lt, nat_eq, Option, Some, None, List, length, take, drop}
use Rattle.std.specs.List.{starts_with}
use Rattle.vfm_packet.specs.declared.header.Header.{Header}
use Rattle.vfm_packet.specs.declared.answer.Expect.{Expect}
use Rattle.vfm_packet.specs.declared.answer.Cause.{Cause}
use Rattle.vfm_packet.specs.declared.answer.Cause.TheVariants as causes
use Rattle.vfm_packet.specs.declared.answer.Decoded.{Decoded}
use Rattle.vfm_packet.specs.declared.answer.Decoded.TheVariants as answers
use Rattle.vfm_packet.specs.Header.{head_bytes}
use Rattle.vfm_packet.specs.Sound.{IsSound, head_at, head_fault}
use Rattle.vfm_packet.specs.Packet.{seal, packet_size, packet_at}

-- the number of a cause
abbrev pub cause_number : Cause → ℕ
cause_number causes.Magic = 1
cause_number causes.Version = 2
cause_number causes.Kind = 3
cause_number causes.Foreign = 4
cause_number causes.Length = 5
cause_number causes.Spare = 6
cause_number causes.Corrupt = 13

-- whether the payload that this header announces is followed by the packet's seal
abbrev pub is_sealed : Header → List ℕ → Bool
is_sealed h bytes = starts_with nat_eq (drop (40 + h.length) bytes) (seal (packet_at h bytes))

-- the answer about a sound header
abbrev pub decoded_head : Header → List ℕ → Decoded
decoded_head h bytes =
    if nat_lt (length bytes) (packet_size h) then answers.More else
    (if is_sealed h bytes then answers.Packet h (packet_size h) else answers.Bad causes.Corrupt)

-- the answer after the tests of the header
abbrev pub decoded_after : Option Cause → List ℕ → Decoded
decoded_after (Some cause) bytes = answers.Bad cause
decoded_after None bytes = decoded_head (head_at bytes) bytes

-- what stands at the start
unfoldable pub decoded : Expect → List ℕ → Decoded
decoded e bytes = if nat_lt (length bytes) 40 then answers.More else decoded_after (head_fault e bytes) bytes

-- the bytes begin with this sound header
pub record HasHeader (e : Expect) (bytes : List ℕ) (head : Header) : Type 0 where
  pub sound : IsSound e head
  pub encoded : take 40 bytes ≡ head_bytes head

-- the bytes begin with this sound header, and all that it announces is there, with the packet's seal
pub record BeginsWith (e : Expect) (bytes : List ℕ) (head : Header) : Type 0 where
  pub header : HasHeader e bytes head
  pub whole : packet_size head ≤ length bytes
  pub sealed : is_sealed head bytes ≡ true

-- a sound header stands before fewer bytes than it announces
pub record IsCutShort (e : Expect) (bytes : List ℕ) : Type 0 where
  pub head : Header
  pub header : HasHeader e bytes head
  pub short : length bytes < packet_size head

-- fewer bytes than a whole packet, as far as can be seen
abbrev pub IsPartial : Expect → List ℕ → Type 0
IsPartial e bytes = (length bytes < 40) ⊎ IsCutShort e bytes

-- no sound header is encoded by the first forty bytes, and this is the first test that fails
pub record HasNoHeader (e : Expect) (bytes : List ℕ) (cause : Cause) : Type 0 where
  pub long : 40 ≤ length bytes
  pub none : (head : Header) → HasHeader e bytes head → ⊥
  pub fault : head_fault e bytes ≡ Some cause

-- a sound header stands before all that it announces, with other bytes than the packet's seal
pub record IsCorrupt (e : Expect) (bytes : List ℕ) : Type 0 where
  pub head : Header
  pub header : HasHeader e bytes head
  pub whole : packet_size head ≤ length bytes
  pub other : is_sealed head bytes ≡ false

-- what stands at the start is refused, for this cause
abbrev pub IsRefused : Expect → List ℕ → Cause → Type 0
IsRefused e bytes cause = HasNoHeader e bytes cause ⊎ ((cause ≡ causes.Corrupt) × IsCorrupt e bytes)
