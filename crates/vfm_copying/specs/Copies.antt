-- What the copying side has seen last: each page as its last copy took it, and each block as its last
-- reading did.
use Rattle.std.specs.Prelude.{ℕ, ◌==◌, ◌&&◌, if◌then◌else◌, List, [], ◌∷◌, Option, Some, None}
use Rattle.vfm_types.specs.declared.entry.Entry.{Entry}
use Rattle.vfm_types.specs.declared.entry.Entry.TheVariants.{Copy, Block}
use Rattle.vfm_types.specs.declared.desc.Desc.{Desc}
use Rattle.vfm_types.specs.Deliveries.{machine_of, page_bytes, block_bytes}

-- the bytes of page p when it was copied last, if it ever was
abbrev pub last_copy : Desc → ℕ → List Entry → Option (List ℕ)
last_copy D p [] = None
last_copy D p (Copy q ∷ past) = if q == p then Some (page_bytes (machine_of D past) p) else last_copy D p past
last_copy D p (entry ∷ past) = last_copy D p past

-- the bytes of block b of device d when it was read last, if it ever was
abbrev pub last_reading : Desc → ℕ → ℕ → List Entry → Option (List ℕ)
last_reading D d b [] = None
last_reading D d b (Block e c ∷ past) =
    if e == d && c == b then Some (block_bytes (machine_of D past) d b) else last_reading D d b past
last_reading D d b (entry ∷ past) = last_reading D d b past
