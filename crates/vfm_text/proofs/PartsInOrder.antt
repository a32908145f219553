-- The parts of a report, and the report up to each of them.
use Rattle.std.proofs.Common.{ℕ, List, [], ◌++◌}
use Rattle.std.specs.Prelude.{codes}
use Rattle.vfm_plain.specs.Text.{line}
use Rattle.vfm_plain.specs.Report.{Made, journal_part, state_part, if_there}

abbrev pub source : Made → List ℕ
source made = journal_part (codes "source") made.source

abbrev pub joint : Made → List ℕ
joint made = if_there (state_part made.desc (codes "joint")) made.joint

abbrev pub loaded : Made → List ℕ
loaded made = if_there (state_part made.desc (codes "loaded")) made.loaded

abbrev pub destination : Made → List ℕ
destination made = if_there (journal_part (codes "destination")) made.destination

abbrev pub final : Made → List ℕ
final made = if_there (state_part made.desc (codes "final")) made.final

abbrev pub ending : List ℕ
ending = line (codes "end") []

abbrev pub to_joint : Made → List ℕ
to_joint made = source made ++ joint made

abbrev pub to_loaded : Made → List ℕ
to_loaded made = to_joint made ++ loaded made

abbrev pub to_destination : Made → List ℕ
to_destination made = to_loaded made ++ destination made

abbrev pub to_final : Made → List ℕ
to_final made = to_destination made ++ final made
