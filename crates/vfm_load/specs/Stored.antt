-- What was stored of a memory or of a device: of each page and block the bytes that came last, which ones never came, and
-- of a device its counts and its pending requests.
use Rattle.std.specs.Prelude.{◌≡◌, ℕ, ◌+◌, ◌*◌, ◌<◌, ◌≤◌, ◌==◌, ◌&&◌, not, Bool, true, false, if◌then◌else◌, nat_lt, List, [], ◌++◌, length, take, drop, slice_index_or, slice_set, All, Option, Some, None}
use Rattle.vfm_base.specs.PageSet.{contains_page}
use Rattle.vfm_types.specs.declared.desc.DevShape.{DevShape}
use Rattle.vfm_types.specs.declared.desc.Desc.{Desc}
use Rattle.vfm_types.specs.Desc.{bar_bytes, block_count}
use Rattle.vfm_types.specs.Machine.{DeviceState, splice}
use Rattle.vfm_laws.specs.Queues.{IsRising}
use Rattle.vfm_record.specs.Record.{Record, Page, Block, Engine, Pending, Config, most_lost}
use Rattle.vfm_streams.specs.Loaded.{last_page, last_block, all_pairs, has_engine, engine_device, engine_pend}
use Rattle.vfm_streams.specs.Judged.{number_after, pairs_fault}

-- the pages of a memory, and those that never came, in rising order
pub record StoredPages : Type 0 where
  pub pages : List (List ℕ)
  pub missing : List ℕ

-- A device: the bytes of its BARs; the blocks that never came, in rising order; whether its counts came, and what they
-- and the buffer are; its pending requests so far, one above the number of the last, and for how many there is room.
pub record StoredDevice : Type 0 where
  pub bar : List ℕ
  pub missing : List ℕ
  pub counted : Bool
  pub accepted : ℕ
  pub done : ℕ
  pub lost : ℕ
  pub pend : ℕ
  pub buf : List ℕ
  pub pending : List (ℕ × ℕ)
  pub low : ℕ
  pub room : ℕ

-- a set of numbers without this one
abbrev pub LeavesOut : ℕ → List ℕ → List ℕ → Type 0
LeavesOut p before after = (q : ℕ) → contains_page after q ≡ (contains_page before q && not (q == p))

-- the bytes of page p, if it came
abbrev pub stored_page : StoredPages → ℕ → Option (List ℕ)
stored_page stored p = if contains_page stored.missing p then None else Some (slice_index_or stored.pages p [])

-- the bytes of page p were put in
pub record TakesPage (p : ℕ) (bytes : List ℕ) (before after : StoredPages) : Type 0 where
  pub pages : after.pages ≡ slice_set before.pages p bytes
  pub missing : LeavesOut p before.missing after.missing

-- the bytes of block b, if it came
abbrev pub stored_block : StoredDevice → ℕ → Option (List ℕ)
stored_block stored b = if contains_page stored.missing b then None else Some (take 64 (drop (64 * b) stored.bar))

-- the bytes of block b were put in
pub record TakesBlock (b : ℕ) (bytes : List ℕ) (before after : StoredDevice) : Type 0 where
  pub bar : after ≡ record before { bar = splice before.bar (64 * b) bytes; missing = after.missing }
  pub missing : LeavesOut b before.missing after.missing

-- with these counts and this buffer
abbrev pub with_counts : ℕ → ℕ → ℕ → ℕ → List ℕ → StoredDevice → StoredDevice
with_counts accepted done lost pend buf stored =
    record stored { counted = true; accepted = accepted; done = done; lost = lost; pend = pend; buf = buf }

-- with these pending requests behind the others
abbrev pub with_pairs : List (ℕ × ℕ) → StoredDevice → StoredDevice
with_pairs pairs stored =
    record stored { pending = stored.pending ++ pairs; low = number_after stored.low pairs }

-- what a record says was put in
abbrev pub TakesRecord : Record → StoredDevice → StoredDevice → Type 0
TakesRecord (Page p bytes) before after = after ≡ before
TakesRecord (Block b bytes) before after = TakesBlock b bytes before after
TakesRecord (Engine accepted done lost pend buf) before after = after ≡ with_counts accepted done lost pend buf before
TakesRecord (Pending pairs) before after = after ≡ with_pairs pairs before
TakesRecord (Config digest) before after = after ≡ before

-- the place at which pending requests are refused behind the counts, for a device with so many jobs
abbrev pub pairs_place : ℕ → StoredDevice → List (ℕ × ℕ) → Option ℕ
pairs_place jobs stored pairs =
    if nat_lt stored.pend (length stored.pending + length pairs) then Some 1
    else pairs_fault stored.accepted jobs stored.low 0 pairs

-- the place at which a record other than a digest is refused, if it is
abbrev pub record_place : ℕ → StoredDevice → Record → Option ℕ
record_place jobs stored (Page p bytes) = None
record_place jobs stored (Block b bytes) = if stored.counted then Some 0 else None
record_place jobs stored (Engine accepted done lost pend buf) = if stored.counted then Some 0 else None
record_place jobs stored (Pending pairs) = if stored.counted then pairs_place jobs stored pairs else Some 0
record_place jobs stored (Config digest) = None

-- the device as it is loaded
abbrev pub device_stored : StoredDevice → DeviceState
device_stored stored =
    record {
      bar = stored.bar;
      pending = stored.pending;
      buf = stored.buf;
      accepted = stored.accepted;
      done = stored.done;
      lost = stored.lost;
    }

-- the pages have the sizes of the description, and none is lacking that isn't there
pub record FitsPages (D : Desc) (stored : StoredPages) : Type 0 where
  pub count : length stored.pages ≡ D.pages
  pub size : (p : ℕ) → p < D.pages → length (slice_index_or stored.pages p []) ≡ D.page
  pub missing : (p : ℕ) → D.pages ≤ p → contains_page stored.missing p ≡ false

-- The device has the sizes of its shape; its counts are those of one that was accepted within the budget; its pending
-- requests, of jobs that are there, rise below what was accepted, and there is room for all that are announced.
pub record FitsDevice (shape : DevShape) (stored : StoredDevice) : Type 0 where
  pub bar : length stored.bar ≡ bar_bytes shape
  pub blocks : length stored.bar ≡ 64 * block_count shape
  pub missing : (b : ℕ) → block_count shape ≤ b → contains_page stored.missing b ≡ false
  pub buf : length stored.buf ≡ 64
  pub sum : stored.done + stored.pend ≡ stored.accepted
  pub within : stored.accepted ≤ shape.budget
  pub lost : stored.lost ≤ most_lost
  pub jobs : All (λ request. request.1 < length shape.jobs) stored.pending
  pub rising : IsRising 0 stored.pending stored.low
  pub low : stored.low ≤ stored.accepted
  pub few : length stored.pending ≤ stored.pend
  pub room : shape.budget ≤ stored.room
  pub uncounted : stored.counted ≡ false → stored.accepted ≡ 0

-- what is stored of the pages is what these records say
pub record HoldsPages (D : Desc) (records : List Record) (stored : StoredPages) : Type 0 where
  pub pages : (p : ℕ) → p < D.pages → last_page p records ≡ stored_page stored p

-- what is stored of a device of this shape is what these records say
pub record HoldsDevice (shape : DevShape) (records : List Record) (stored : StoredDevice) : Type 0 where
  pub blocks : (b : ℕ) → b < block_count shape → last_block b records ≡ stored_block stored b
  pub counted : has_engine records ≡ stored.counted
  pub engine : stored.counted ≡ true → engine_device records ≡ record (device_stored stored) { bar = []; pending = [] }
  pub pend : engine_pend records ≡ stored.pend
  pub pairs : all_pairs records ≡ stored.pending
  pub low : number_after 0 stored.pending ≡ stored.low
