-- The report of a run: a status line, then the journals and states that it has, each under a line of its own.
use Rattle.std.specs.Prelude.{ℕ, List, [], ◌∷◌, ◌++◌, Option, Some, None, codes, reverse, unwrap_or}
use Rattle.vfm_types.specs.declared.entry.Entry.{Entry}
use Rattle.vfm_types.specs.declared.desc.Desc.{Desc}
use Rattle.vfm_types.specs.Machine.{Machine}
use Rattle.vfm_plain.specs.Text.{line}
use Rattle.vfm_plain.specs.StateText.{state_text}
use Rattle.vfm_plain.specs.EntryText.{journal_text}

-- What a run made once its source stood: the described machine; the source's journal, oldest entry first; the state at
-- the joint stop, the state that the destination loaded, the destination's journal, and the state at the end, each
-- where the report has that part.
pub record Made : Type 0 where
  pub desc : Desc
  pub source : List Entry
  pub joint : Option Machine
  pub loaded : Option Machine
  pub destination : Option (List Entry)
  pub final : Option Machine

-- both journals, the source's and then the destination's, oldest entry first
abbrev pub journal : Made → List Entry
journal made = made.source ++ unwrap_or made.destination []

-- the same, newest entry first, as facts are read off it
abbrev pub past : Made → List Entry
past made = reverse (journal made)

-- the source's journal alone, newest entry first
abbrev pub source_past : Made → List Entry
source_past made = reverse made.source

-- a journal under its title
abbrev pub journal_part : List ℕ → List Entry → List ℕ
journal_part title entries = line (codes "journal") (title ∷ []) ++ journal_text entries

-- a state under its title
abbrev pub state_part : Desc → List ℕ → Machine → List ℕ
state_part D title m = line (codes "state") (title ∷ []) ++ state_text D m

-- a part, where it is there
abbrev pub if_there : {X : Type 0} → (X → List ℕ) → Option X → List ℕ
if_there part None = []
if_there part (Some x) = part x

-- the parts in their order, and the line that ends them
abbrev pub parts_text : Made → List ℕ
parts_text made =
    journal_part (codes "source") made.source ++ if_there (state_part made.desc (codes "joint")) made.joint
    ++ if_there (state_part made.desc (codes "loaded")) made.loaded
    ++ if_there (journal_part (codes "destination")) made.destination
    ++ if_there (state_part made.desc (codes "final")) made.final ++ line (codes "end") []

-- The report of a run whose status has this line. Where no core was made, the status line is all.
abbrev pub report_text : List ℕ → Option Made → List ℕ
report_text status made = status ++ if_there parts_text made
