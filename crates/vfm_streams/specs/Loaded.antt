-- The machine that records make: of each page and each block the record that came last, and the counts and
-- the pending requests of each device. The records of a stream are given newest first.
use Rattle.std.specs.Prelude.{ℕ, suc, ◌==◌, Bool, true, false, if◌then◌else◌, List, [], ◌∷◌, ◌++◌, map, Option, Some, None, unwrap_or}
use Rattle.std.specs.List.{flat_map, range_with_len}
use Rattle.vfm_types.specs.declared.desc.Desc.{Desc}
use Rattle.vfm_types.specs.Desc.{device_count, shape_at, block_count}
use Rattle.vfm_types.specs.Machine.{DeviceState, Machine, no_device}
use Rattle.vfm_record.specs.Record.{Record, Page, Block, Engine, Pending}

-- the bytes of page p, if it came
abbrev pub last_page : ℕ → List Record → Option (List ℕ)
last_page p [] = None
last_page p (Page q bytes ∷ older) = if q == p then Some bytes else last_page p older
last_page p (r ∷ older) = last_page p older

-- the bytes of block b, if it came
abbrev pub last_block : ℕ → List Record → Option (List ℕ)
last_block b [] = None
last_block b (Block c bytes ∷ older) = if c == b then Some bytes else last_block b older
last_block b (r ∷ older) = last_block b older

-- the pending requests that came, in order
abbrev pub all_pairs : List Record → List (ℕ × ℕ)
all_pairs [] = []
all_pairs (Pending pairs ∷ older) = all_pairs older ++ pairs
all_pairs (r ∷ older) = all_pairs older

-- the counts came
abbrev pub has_engine : List Record → Bool
has_engine [] = false
has_engine (Engine accepted done lost pend buf ∷ older) = true
has_engine (r ∷ older) = has_engine older

-- the counts and the buffer that came last
abbrev pub engine_device : List Record → DeviceState
engine_device [] = no_device
engine_device (Engine accepted done lost pend buf ∷ older) =
    record { bar = []; pending = []; buf = buf; accepted = accepted; done = done; lost = lost }
engine_device (r ∷ older) = engine_device older

-- how many pending requests these announce
abbrev pub engine_pend : List Record → ℕ
engine_pend [] = 0
engine_pend (Engine accepted done lost pend buf ∷ older) = pend
engine_pend (r ∷ older) = engine_pend older

-- the bytes of all blocks of device d
abbrev pub loaded_bar : Desc → ℕ → List Record → List ℕ
loaded_bar D d records =
    flat_map (λ b. unwrap_or (last_block b records) []) (range_with_len 0 (block_count (shape_at D d)))

-- device d
abbrev pub loaded_device : Desc → ℕ → List Record → DeviceState
loaded_device D d records =
    record (engine_device records) { bar = loaded_bar D d records; pending = all_pairs records }

-- the machine that the records of all streams make
abbrev pub loaded : Desc → (ℕ → List Record) → Machine
loaded D said =
    record {
      pages = map (λ p. unwrap_or (last_page p (said 0)) []) (range_with_len 0 D.pages);
      devices = map (λ d. loaded_device D d (said (suc d))) (range_with_len 0 (device_count D));
    }
