-- What came of the wires of a move, and what the links carried where they tell their bytes.
use Rattle.std.specs.Prelude.{◌≡◌, ℕ, Bool, List, map, Some}
use Rattle.vfm_outside.specs.Links.{Told, ToldEnds}

-- What came of the wires: they weren't asked for links, or had no memory for them; they failed; or they gave links, which
-- tell this when they are taken in again.
pub data Contact : Type 0 where
  Untouched : Contact
  Failed : Contact
  Linked : ToldEnds → Contact

-- what a link that tells its bytes carried: whether it ended, how often it failed, and the bytes of both directions
pub record Line : Type 0 where
  pub ended : Bool
  pub failed_out : ℕ
  pub failed_in : ℕ
  pub sent : List ℕ
  pub received : List ℕ

-- what the links of the two ends carried, where all of them tell
pub record Lines : Type 0 where
  pub source_control : Line
  pub source : List Line
  pub dest_control : Line
  pub dest : List Line

-- the same as links tell it
abbrev pub told_line : Line → Told
told_line line =
    record {
      ended = line.ended;
      failed_out = line.failed_out;
      failed_in = line.failed_in;
      sent = Some line.sent;
      received = Some line.received;
    }

abbrev pub told_lines : Lines → ToldEnds
told_lines lines =
    record {
      source_control = told_line lines.source_control;
      source = map told_line lines.source;
      dest_control = told_line lines.dest_control;
      dest = map told_line lines.dest;
    }

-- Where there were links, and all of them tell their bytes: of what these carried. It is the one premise of every sentence
-- about bytes on the wires.
abbrev pub WhereTold : Contact → (Lines → Type 0) → Type 0
WhereTold contact P = (lines : Lines) → contact ≡ Linked (told_lines lines) → P lines

-- there were links, and all of them tell their bytes
pub record AreTold (contact : Contact) : Type 0 where
  pub lines : Lines
  pub told : contact ≡ Linked (told_lines lines)

-- there were links, and this holds of what they tell
abbrev pub IsLinkedAnd : Contact → (ToldEnds → Type 0) → Type 0
IsLinkedAnd Untouched P = ⊥
IsLinkedAnd Failed P = ⊥
IsLinkedAnd (Linked ends) P = P ends

-- the bytes that the destination's channels received
abbrev pub arrived : Lines → List (List ℕ)
arrived lines = map (λ line. line.received) lines.dest
