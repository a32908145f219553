-- Records: what they say, their one encoding, and which of them a stream of a machine can have.
use Rattle.std.specs.Prelude.{◌≡◌, ℕ, zero, suc, ◌+◌, ◌*◌, ◌-◌, ◌^◌, ◌<◌, ◌≤◌, List, [], ◌∷◌, ◌++◌, length, take, drop}
use Rattle.std.specs.List.{flat_map, AllByRecursion}
use Rattle.std.specs.Int.{w16, w32, to_be_bytes}
use Rattle.vfm_types.specs.declared.desc.DevShape.{DevShape}
use Rattle.vfm_types.specs.declared.desc.Desc.{Desc}
use Rattle.vfm_types.specs.Desc.{block_count, device_count, shape_at}
use Rattle.vfm_types.specs.Valid.{IsValid}
use Rattle.vfm_record.specs.declared.record.Rec.{Rec}
use Rattle.vfm_record.specs.declared.record.Rec.TheVariants as lent
use Rattle.vfm_base.specs.Words.{word_at}

-- a record by its value
pub data Record : Type 0 where
  -- a page of memory and its bytes
  Page : ℕ → List ℕ → Record
  -- a block of the device's BARs and its 64 bytes
  Block : ℕ → List ℕ → Record
  -- how many requests the device accepted, did, lost and has pending, and its buffer
  Engine : ℕ → ℕ → ℕ → ℕ → List ℕ → Record
  -- pending requests, each with its number and the number of its job
  Pending : List (ℕ × ℕ) → Record
  -- the digest of the stream's shape text
  Config : List ℕ → Record

-- the eight bytes of a pending request: its number and the number of its job
abbrev pub pair_bytes : ℕ × ℕ → List ℕ
pair_bytes pair = to_be_bytes w32 pair.0 ++ to_be_bytes w32 pair.1

-- the bytes of a record: its tag and what stands after, each number with its highest byte first
abbrev pub record_bytes : Record → List ℕ
record_bytes (Page p bytes) = 1 ∷ (to_be_bytes w32 p ++ bytes)
record_bytes (Block b bytes) = 2 ∷ (to_be_bytes w32 b ++ bytes)
record_bytes (Engine accepted done lost pend buf) =
    3 ∷ (to_be_bytes w32 accepted ++ to_be_bytes w32 done ++ to_be_bytes w32 lost ++ to_be_bytes w32 pend ++ buf)
record_bytes (Pending pairs) = 4 ∷ (to_be_bytes w16 (length pairs) ++ flat_map pair_bytes pairs)
record_bytes (Config digest) = 5 ∷ digest

-- how many bytes a record has
abbrev pub record_size : Record → ℕ
record_size (Page p bytes) = 5 + length bytes
record_size (Block b bytes) = 5 + length bytes
record_size (Engine accepted done lost pend buf) = 17 + length buf
record_size (Pending pairs) = 3 + 8 * length pairs
record_size (Config digest) = 1 + length digest

-- both numbers of a pending request fit their fields
abbrev pub FitsPair : ℕ × ℕ → Type 0
FitsPair pair = (pair.0 < 2 ^ 32) × (pair.1 < 2 ^ 32)

-- the numbers of a record fit their fields
abbrev pub Fits : Record → Type 0
Fits (Page p bytes) = p < 2 ^ 32
Fits (Block b bytes) = b < 2 ^ 32
Fits (Engine accepted done lost pend buf) = (accepted < 2 ^ 32) × (done < 2 ^ 32) × (lost < 2 ^ 32) × (pend < 2 ^ 32)
Fits (Pending pairs) = (length pairs < 2 ^ 16) × AllByRecursion FitsPair pairs
Fits (Config digest) = Unit {0}

-- eight zeros
abbrev pub bell_bytes : List ℕ
bell_bytes = 0 ∷ 0 ∷ 0 ∷ 0 ∷ 0 ∷ 0 ∷ 0 ∷ 0 ∷ []

-- block 0 begins with the doorbell, whose bytes are always zero
abbrev pub KeepsBell : ℕ → List ℕ → Type 0
KeepsBell b bytes = b ≡ 0 → take 8 bytes ≡ bell_bytes

-- what all budgets together may allow at the most
abbrev pub most_lost : ℕ
most_lost = 400000

-- the device whose stream it is
abbrev pub shape_of_stream : Desc → ℕ → DevShape
shape_of_stream D stream = shape_at D (stream - 1)

-- The record is one that the stream of this machine can have. Stream 0 is memory, stream d + 1 is device d; each ends
-- with its digest.
abbrev pub IsOf : Desc → ℕ → Record → Type 0
IsOf D stream (Page p bytes) = (stream ≡ 0) × (p < D.pages) × (length bytes ≡ D.page)
IsOf D stream (Block b bytes) =
    (0 < stream) × (b < block_count (shape_of_stream D stream)) × (length bytes ≡ 64) × KeepsBell b bytes
IsOf D stream (Engine accepted done lost pend buf) =
    (0 < stream) × (accepted ≤ (shape_of_stream D stream).budget) × (done + pend ≡ accepted) × (lost ≤ most_lost) × (length buf ≡ 64)
IsOf D stream (Pending pairs) = (0 < stream) × (1 ≤ length pairs) × (length pairs ≤ 4096)
IsOf D stream (Config digest) = length digest ≡ 32

-- a record of the stream, whose numbers fit their fields
pub record IsRecordOf (D : Desc) (stream : ℕ) (r : Record) : Type 0 where
  pub fits : Fits r
  pub of : IsOf D stream r

-- a record of some stream of some machine
pub record IsRecord (r : Record) : Type 0 where
  pub machine : Desc
  pub stream : ℕ
  pub valid : IsValid machine
  pub known : stream ≤ device_count machine
  pub of : IsRecordOf machine stream r

-- so many pairs, from bytes
unfoldable pub pairs_of : ℕ → List ℕ → List (ℕ × ℕ)
pairs_of zero bytes = []
pairs_of (suc n) bytes = (word_at w32 0 bytes, word_at w32 4 bytes) ∷ pairs_of n (drop 8 bytes)

-- what a record says that lends its bytes
abbrev pub record_of : Rec → Record
record_of (lent.Page p bytes) = Page p bytes.now
record_of (lent.Block b bytes) = Block b bytes.now
record_of (lent.Engine accepted done lost pend buf) = Engine accepted done lost pend buf.now
record_of (lent.Pending count bytes) = Pending (pairs_of count bytes.now)
record_of (lent.Config digest) = Config digest.now

-- it lends eight bytes for each of its pairs
abbrev pub IsWhole : Rec → Type 0
IsWhole (lent.Pending count bytes) = length bytes.now ≡ 8 * count
IsWhole (lent.Page p bytes) = Unit {0}
IsWhole (lent.Block b bytes) = Unit {0}
IsWhole (lent.Engine accepted done lost pend buf) = Unit {0}
IsWhole (lent.Config digest) = Unit {0}
