-- What is stored of a stream, whichever it is: it has the sizes of the stream's part, and is what records say.
use Rattle.std.specs.Prelude.{◌≡◌, ℕ, ◌≤◌, Bool, true, false, List}
use Rattle.vfm_types.specs.declared.desc.Desc.{Desc}
use Rattle.vfm_record.specs.Record.{Record, Page, Block, Engine, Pending, Config, shape_of_stream}
use Rattle.vfm_load.specs.declared.store.Store.{Store}
use Rattle.vfm_load.specs.declared.store.Store.TheVariants as stores
use Rattle.vfm_load.specs.Stored.{FitsPages, FitsDevice, HoldsPages, HoldsDevice}

-- the record is a digest
abbrev pub is_digest : Record → Bool
is_digest (Page p bytes) = false
is_digest (Block b bytes) = false
is_digest (Engine accepted done lost pend buf) = false
is_digest (Pending pairs) = false
is_digest (Config digest) = true

-- what is stored has the sizes of the stream's part
abbrev pub FitsStore : Desc → ℕ → Store → Type 0
FitsStore D s (stores.Pages stored) = (s ≡ 0) × FitsPages D stored
FitsStore D s (stores.Device stored) = (1 ≤ s) × FitsDevice (shape_of_stream D s) stored

-- what is stored is what these records say
abbrev pub HoldsStore : Desc → ℕ → List Record → Store → Type 0
HoldsStore D s records (stores.Pages stored) = HoldsPages D records stored
HoldsStore D s records (stores.Device stored) = HoldsDevice (shape_of_stream D s) records stored
