-- What came out of a ring.
use Rattle.std.specs.Prelude.{◌≡◌, ℕ, ◌<◌, List, [], ◌++◌, length, take}
use Rattle.rtrb.specs.Ring.{received, known_items}
use Rattle.vfm_outside.specs.declared.inlet.Inlet.{Inlet}
use Rattle.vfm_outside.specs.Pieces.{pieces_bytes, first_bytes}

-- the bytes that came so far out of the receiving end of a ring
abbrev pub came : Inlet → List ℕ
came inlet = pieces_bytes (received inlet.ring) ++ take inlet.at (first_bytes (known_items inlet.ring))

-- a piece is known to be there
abbrev pub HasPiece : Inlet → Type 0
HasPiece inlet = 0 < length (known_items inlet.ring)

-- the piece that is there first is empty: nothing more is sent
abbrev pub IsAtEnd : Inlet → Type 0
IsAtEnd inlet = HasPiece inlet × (first_bytes (known_items inlet.ring) ≡ [])
