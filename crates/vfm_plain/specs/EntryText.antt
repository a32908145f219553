-- A journal as text: a line for each entry.
use Rattle.std.specs.Prelude.{ℕ, List, [], ◌∷◌, codes, decimal}
use Rattle.std.specs.List.{flat_map}
use Rattle.vfm_types.specs.declared.entry.Entry.{Entry}
use Rattle.vfm_types.specs.declared.entry.Entry.TheVariants.{Issue, Deliver, Complete, Hold, Arc, Fail, Report, Pass, Copy, Block, Dry, Begin, Joint, Abort, Resume}
use Rattle.vfm_plain.specs.Text.{line, state_name}

-- the line of an entry
abbrev pub entry_line : Entry → List ℕ
entry_line (Issue d n) = line (codes "issue") (decimal d ∷ decimal n ∷ [])
entry_line (Deliver d n) = line (codes "deliver") (decimal d ∷ decimal n ∷ [])
entry_line (Complete d n) = line (codes "complete") (decimal d ∷ decimal n ∷ [])
entry_line (Hold d to) = line (codes "hold") (decimal d ∷ state_name to ∷ [])
entry_line (Arc d to) = line (codes "arc") (decimal d ∷ state_name to ∷ [])
entry_line (Fail d to) = line (codes "fail") (decimal d ∷ state_name to ∷ [])
entry_line (Report d) = line (codes "report") (decimal d ∷ [])
entry_line (Pass k) = line (codes "pass") (decimal k ∷ [])
entry_line (Copy p) = line (codes "copy") (decimal p ∷ [])
entry_line (Block d b) = line (codes "block") (decimal d ∷ decimal b ∷ [])
entry_line (Dry d) = line (codes "dry") (decimal d ∷ [])
entry_line Begin = line (codes "begin") []
entry_line Joint = line (codes "joint") []
entry_line Abort = line (codes "abort") []
entry_line Resume = line (codes "resume") []

-- the lines of a list of entries, oldest first
abbrev pub journal_text : List Entry → List ℕ
journal_text entries = flat_map entry_line entries
