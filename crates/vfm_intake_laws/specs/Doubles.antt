-- Indexes that came more than once.
use Rattle.std.specs.Prelude.{ℕ, ◌<◌, ◌≤◌, min, List, Option, Some, None}
use Rattle.vfm_packet.specs.Packet.{Packet}
use Rattle.vfm_streams.specs.Whole.{times}

-- this is the least index that two of the packets have, or none has two
abbrev pub IsLeastDoubled : Option ℕ → List Packet → Type 0
IsLeastDoubled None packets = (i : ℕ) → times i packets ≤ 1
IsLeastDoubled (Some i) packets = (1 < times i packets) × ((j : ℕ) → j < i → times j packets ≤ 1)

-- the lesser of an index and the one that was told before, if one was
abbrev pub least_told : Option ℕ → ℕ → ℕ
least_told None i = i
least_told (Some j) i = min j i
