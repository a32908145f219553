-- What a run prints: a report by its status and by what was made, or a line of its own.
use Rattle.std.specs.Prelude.{ℕ, List, [], ◌∷◌, ◌++◌, codes, decimal, map, Option, Some, None, Result, Ok, Err}
use Rattle.vfm_types.specs.declared.state.MigState.{MigState}
use Rattle.vfm_types.specs.declared.state.PathFault.{PathFault}
use Rattle.vfm_types.specs.declared.state.PathFault.TheVariants.{Unsupported, Forbidden, FromError}
use Rattle.vfm_types.specs.Paths.{path_of}
use Rattle.vfm_types.specs.declared.desc.Desc.{Desc}
use Rattle.vfm_types.specs.Machine.{Machine}
use Rattle.hex.specs.Hex.{encode_lower}
use Rattle.vfm_plain.specs.Report.{Made, if_there, report_text}
use Rattle.vfm_plain.specs.Shape.{all_done}
use Rattle.vfm_plain.specs.StateText.{state_digest}
use Rattle.vfm_loads.specs.Sums.{all_accepted, all_lost}
use Rattle.vfm_move.specs.Table.{Owner, TookOver, Neither, WentOn, owner_at}
use Rattle.vfm_plain.specs.Text.{line, state_name}
use Rattle.vfm_top.specs.declared.words.Form.{Form}
use Rattle.vfm_top.specs.declared.words.Form.TheVariants.{Run, Load, Audit, Paths}
use Rattle.vfm_status.specs.declared.status.Status.{Status}
use Rattle.vfm_status.specs.declared.status.Status.TheVariants.{Printed, BadWords, PathRefused}
use Rattle.vfm_status.specs.StatusText.{status_line}

-- the report of `run`: the status line, and what was made
abbrev pub report : Status → Option Made → List ℕ
report status made = report_text (status_line status) made

-- The summary of a machine of load N: its number, how many requests all devices together accepted, did and lost, and the digest
-- of the machine.
abbrev pub summary : ℕ → Desc → Machine → List ℕ
summary number D m =
    line (codes "load") (decimal number ∷ []) ++ line (codes "accepted") (decimal (all_accepted m) ∷ [])
    ++ line (codes "done") (decimal (all_done m) ∷ []) ++ line (codes "lost") (decimal (all_lost m) ∷ [])
    ++ line (codes "digest") (encode_lower (state_digest D m) ∷ [])

-- the machine that is summed up: the one at the end, or where neither end runs the one at the joint stop
abbrev pub summed_up : Owner → Made → Option Machine
summed_up Neither made = made.joint
summed_up TookOver made = made.final
summed_up WentOn made = made.final

-- what `load N` prints: the status line, and where a source was made the summary
abbrev pub load_report : ℕ → Status → Option Made → List ℕ
load_report number status made =
    status_line status
    ++ if_there (λ (made : Made). if_there (summary number made.desc) (summed_up (owner_at status) made)) made

-- the line of a path
abbrev pub path_line : List MigState → List ℕ
path_line states = line (codes "path") (map state_name states)

-- the words of a refusal of a path
abbrev pub refused_words : PathFault → List (List ℕ)
refused_words (Unsupported state) = codes "unsupported" ∷ state_name state ∷ []
refused_words (Forbidden from to) = codes "forbidden" ∷ state_name from ∷ state_name to ∷ []
refused_words FromError = codes "from-error" ∷ []

abbrev pub refused_line : PathFault → List ℕ
refused_line fault = line (codes "refused") (refused_words fault)

-- what `paths` prints: the path, or why there is none
abbrev pub path_text : Result (List MigState) PathFault → List ℕ
path_text (Ok route) = path_line route
path_text (Err fault) = refused_line fault

-- the status of that
abbrev pub path_status : Result (List MigState) PathFault → Status
path_status (Ok route) = Printed
path_status (Err fault) = PathRefused fault

-- what `audit` prints: of a legal report how many entries stand in both journals, else the line of the status
abbrev pub audit_text : Status → ℕ → List ℕ
audit_text Printed entries = line (codes "status") (codes "legal" ∷ decimal entries ∷ [])
audit_text status entries = status_line status

-- what is printed of a move at a status, with what was made: the summary of a generated load, or the report
abbrev pub moved_text : Option Form → Status → Option Made → List ℕ
moved_text (Some (Load number)) status made = load_report number status made
moved_text form status made = report status made

-- what is printed for words of a form, or of none, at a status, with what was made, or with so many entries of a report
abbrev pub text : Option Form → Status → Option Made → ℕ → List ℕ
text None status made entries = status_line BadWords
text (Some (Run pass)) status made entries = report status made
text (Some (Load number)) status made entries = load_report number status made
text (Some Audit) status made entries = audit_text status entries
text (Some (Paths from to flags)) status made entries = path_text (path_of from to flags)
