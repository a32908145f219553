-- What doing requests in some order comes to.
use Rattle.std.specs.Prelude.{ℕ, Bool, if◌then◌else◌, List, [], ◌∷◌, slice_index, Option, Some, None}
use Rattle.std.specs.List.{list_all}
use Rattle.std.specs.Option.{option_map}
use Rattle.vfm_types.specs.declared.desc.Desc.{Desc}
use Rattle.vfm_types.specs.Words.{is_nothing}
use Rattle.vfm_types.specs.Machine.{Machine, device_of, described}
use Rattle.vfm_types.specs.Deliveries.{page_bytes, block_bytes}
use Rattle.vfm_types.specs.Requests.{do_request, plain}

-- no device has a pending request
abbrev pub is_done : Machine → Bool
is_done m = list_all (λ dev. is_nothing dev.pending) m.devices

-- the machine, if no device has a pending request
abbrev pub if_done : Option Machine → Option Machine
if_done None = None
if_done (Some m) = if is_done m then Some m else None

-- the end that these requests come to, if each is enabled in its turn and none is pending after them
abbrev pub end_of : Desc → List (ℕ × ℕ) → Option Machine
end_of D requests = if_done (plain D requests)

-- at that end, the first byte of page 0
abbrev pub page_byte : Desc → List (ℕ × ℕ) → Option ℕ
page_byte D requests = option_map (λ m. slice_index (page_bytes m 0) 0) (end_of D requests)

-- the first byte of the buffer of device d
abbrev pub buffer_byte : Desc → ℕ → List (ℕ × ℕ) → Option ℕ
buffer_byte D d requests = option_map (λ m. slice_index (device_of m d).buf 0) (end_of D requests)

-- the first byte of block 1 of the BARs of device d
abbrev pub block_byte : Desc → ℕ → List (ℕ × ℕ) → Option ℕ
block_byte D d requests = option_map (λ m. slice_index (block_bytes m d 1) 0) (end_of D requests)

-- the machine after these requests, whether they are enabled or not
abbrev pub forced_from : Desc → Machine → List (ℕ × ℕ) → Machine
forced_from D m [] = m
forced_from D m (request ∷ requests) = forced_from D (do_request D m request.0 request.1) requests

-- the same from the described machine on
abbrev pub forced : Desc → List (ℕ × ℕ) → Machine
forced D requests = forced_from D (described D) requests
