-- The forms of words that the top call answers.
use Rattle.std.specs.Prelude.{ℕ, ◌-◌, ◌==◌, ◌&&◌, Bool, nat_eq, nat_lt, List, [], ◌∷◌, length, codes, Option, Some, None, option_map, if◌then◌else◌}
use Rattle.std.specs.Cmp.Lexicographic.{pointwise}
use Rattle.vfm_types.specs.declared.state.MigState.{MigState}
use Rattle.vfm_types.specs.declared.state.MigState.TheVariants.{Error, Stop, Running, StopCopy, Resuming, RunningP2p, PreCopy, PreCopyP2p}
use Rattle.vfm_plain.specs.Text.{state_name}
use Rattle.vfm_report.specs.Numbers.{number_of}
use Rattle.vfm_top.specs.declared.words.Form.{Form}
use Rattle.vfm_top.specs.declared.words.Form.TheVariants.{Run, Load, Audit, Paths}

-- two texts are the same
abbrev pub same_text : List ℕ → List ℕ → Bool
same_text = pointwise nat_eq

-- the state of this name
abbrev pub state_named : List ℕ → Option MigState
state_named word =
    if same_text word (state_name Error) then Some Error else
    (if same_text word (state_name Stop) then Some Stop else
    (if same_text word (state_name Running) then Some Running else
    (if same_text word (state_name StopCopy) then Some StopCopy else
    (if same_text word (state_name Resuming) then Some Resuming else
    (if same_text word (state_name RunningP2p) then Some RunningP2p else
    (if same_text word (state_name PreCopy) then Some PreCopy else
    (if same_text word (state_name PreCopyP2p) then Some PreCopyP2p else None)))))))

-- the flags that this word writes: 1, 3, 5 or 7
abbrev pub flags_named : List ℕ → Option ℕ
flags_named word =
    if same_text word (codes "1") then Some 1 else
    (if same_text word (codes "3") then Some 3 else
    (if same_text word (codes "5") then Some 5 else
    (if same_text word (codes "7") then Some 7 else None)))

-- the form `paths FROM TO FLAGS`, where each of the three is one
abbrev pub paths_form : Option MigState → Option MigState → Option ℕ → Option Form
paths_form (Some from) (Some to) (Some flags) = Some (Paths from to flags)
paths_form _ _ _ = None

-- the number of a pass that this word writes: one digit that isn't 0
abbrev pub pass_named : List ℕ → Option ℕ
pass_named (digit ∷ []) = if nat_lt 48 digit && nat_lt digit 58 then Some (digit - 48) else None
pass_named _ = None

-- the form `run FILE`, with any word that isn't empty: the source is never to give up
abbrev pub run_form : List ℕ → List ℕ → Option Form
run_form command file = if same_text command (codes "run") then (if length file == 0 then None else Some (Run 0)) else None

-- the form `load N`, with a number of 32 bits, decimal without a leading zero
abbrev pub load_form : List ℕ → Option Form
load_form number = option_map Load (number_of number)

-- the forms of two words
abbrev pub two_words_form : List ℕ → List ℕ → Option Form
two_words_form command word = if same_text command (codes "load") then load_form word else run_form command word

-- the form `run FILE abort N`, with any word that isn't empty: the source is to give up once pass N has ended
abbrev pub abort_form : List ℕ → List ℕ → List ℕ → List ℕ → Option Form
abort_form command file abort pass =
    if same_text command (codes "run") then
    (if length file == 0 then None else (if same_text abort (codes "abort") then option_map Run (pass_named pass) else None)) else None

-- the form `audit FILE REPORT`, with any two words that aren't empty
abbrev pub audit_form : List ℕ → List ℕ → List ℕ → Option Form
audit_form command file report =
    if same_text command (codes "audit") then
    (if length file == 0 then None else (if length report == 0 then None else Some Audit)) else None

-- The form of these words, if they have one: `run FILE`, `load N`, `run FILE abort N`, `audit FILE REPORT` or `paths FROM TO FLAGS`.
abbrev pub form_of : List (List ℕ) → Option Form
form_of [] = None
form_of (command ∷ []) = None
form_of (command ∷ word ∷ []) = two_words_form command word
form_of (command ∷ file ∷ report ∷ []) = audit_form command file report
form_of (command ∷ from ∷ to ∷ flags ∷ []) =
    if same_text command (codes "paths") then paths_form (state_named from) (state_named to) (flags_named flags)
    else abort_form command from to flags
form_of (command ∷ from ∷ to ∷ flags ∷ other ∷ words) = None
