-- The bytes of the pieces that go through a ring.
use Rattle.std.specs.Prelude.{◌≡◌, ℕ, ◌<◌, List, [], ◌∷◌, ◌++◌, take, All}
use Rattle.std.specs.List.{flat_map}
use Rattle.vfm_outside.specs.declared.piece.Piece.{Piece}

-- the bytes of a piece
abbrev pub piece_bytes : Piece → List ℕ
piece_bytes piece = take piece.length piece.bytes

-- the bytes of pieces, one after the other
abbrev pub pieces_bytes : List Piece → List ℕ
pieces_bytes pieces = flat_map piece_bytes pieces

-- the bytes of the first piece, none where there is no piece
abbrev pub first_bytes : List Piece → List ℕ
first_bytes [] = []
first_bytes (piece ∷ pieces) = piece_bytes piece

-- the piece has bytes: it doesn't say that nothing more is sent
abbrev pub CarriesBytes : Piece → Type 0
CarriesBytes piece = 0 < piece.length

-- these bytes went into a ring after what went before, in pieces that all carry bytes
pub record WentIn (before now : List Piece) (bytes : List ℕ) : Type 0 where
  pub pieces : List Piece
  pub put : now ≡ before ++ pieces
  pub each : All CarriesBytes pieces
  pub encoded : pieces_bytes pieces ≡ bytes
