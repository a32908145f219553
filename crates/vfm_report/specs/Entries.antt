-- The entry that a line is of.
use Rattle.std.specs.Prelude.{◌≡◌, ◌≢◌, ℕ, List, [], ◌∷◌, ◌++◌, Option, Some, None, codes, IsTrue, if◌then◌else◌}
use Rattle.std.specs.Option.{option_map, option_or, option_and_then}
use Rattle.vfm_types.specs.declared.state.MigState.{MigState}
use Rattle.vfm_types.specs.declared.entry.Entry.{Entry}
use Rattle.vfm_types.specs.declared.entry.Entry.TheVariants.{Issue, Deliver, Complete, Hold, Arc, Fail, Report, Pass, Copy, Block, Dry, Begin, Joint, Abort, Resume}
use Rattle.vfm_types.specs.Entry.{entry_fits}
use Rattle.vfm_plain.specs.EntryText.{entry_line}
use Rattle.vfm_report.specs.Same.{same_text}
use Rattle.vfm_report.specs.Split.{words_of}
use Rattle.vfm_report.specs.Counted.{no_word, one_word, two_words}
use Rattle.vfm_report.specs.Numbers.{number_of, device_of}
use Rattle.vfm_report.specs.States.{state_named}

-- both, where both are there
abbrev pub both : {X Y : Type 0} → Option X → Option Y → Option (X × Y)
both None o = None
both (Some x) None = None
both (Some x) (Some y) = Some (x, y)

-- two words: a device and a number
abbrev pub device_and_number : List (List ℕ) → Option (ℕ × ℕ)
device_and_number words = option_and_then (λ p. both (device_of p.0) (number_of p.1)) (two_words words)

-- two words: a device and a state
abbrev pub device_and_state : List (List ℕ) → Option (ℕ × MigState)
device_and_state words = option_and_then (λ p. both (device_of p.0) (state_named p.1)) (two_words words)

-- one word: a number
abbrev pub only_number : List (List ℕ) → Option ℕ
only_number words = option_and_then number_of (one_word words)

-- one word: a device
abbrev pub only_device : List (List ℕ) → Option ℕ
only_device words = option_and_then device_of (one_word words)

-- an entry of a device and a number, by its name and the words after it
abbrev pub counted_entry : List ℕ → List (List ℕ) → Option Entry
counted_entry name words =
    if same_text name (codes "issue") then option_map (λ p. Issue p.0 p.1) (device_and_number words) else
    (if same_text name (codes "deliver") then option_map (λ p. Deliver p.0 p.1) (device_and_number words) else
    (if same_text name (codes "complete") then option_map (λ p. Complete p.0 p.1) (device_and_number words) else
    (if same_text name (codes "block") then option_map (λ p. Block p.0 p.1) (device_and_number words) else None)))

-- an entry of a device and a state
abbrev pub moving_entry : List ℕ → List (List ℕ) → Option Entry
moving_entry name words =
    if same_text name (codes "hold") then option_map (λ p. Hold p.0 p.1) (device_and_state words) else
    (if same_text name (codes "arc") then option_map (λ p. Arc p.0 p.1) (device_and_state words) else
    (if same_text name (codes "fail") then option_map (λ p. Fail p.0 p.1) (device_and_state words) else None))

-- an entry of a device or of a number alone
abbrev pub single_entry : List ℕ → List (List ℕ) → Option Entry
single_entry name words =
    if same_text name (codes "report") then option_map Report (only_device words) else
    (if same_text name (codes "dry") then option_map Dry (only_device words) else
    (if same_text name (codes "pass") then option_map Pass (only_number words) else
    (if same_text name (codes "copy") then option_map Copy (only_number words) else None)))

-- an entry of nothing more than its name
abbrev pub bare_entry : List ℕ → List (List ℕ) → Option Entry
bare_entry name words =
    if same_text name (codes "begin") then option_map (λ u. Begin) (no_word words) else
    (if same_text name (codes "joint") then option_map (λ u. Joint) (no_word words) else
    (if same_text name (codes "abort") then option_map (λ u. Abort) (no_word words) else
    (if same_text name (codes "resume") then option_map (λ u. Resume) (no_word words) else None)))

-- the entry that these words are of, if there is one
abbrev pub entry_of_words : List (List ℕ) → Option Entry
entry_of_words [] = None
entry_of_words (name ∷ words) =
    option_or (counted_entry name words)
    (option_or (moving_entry name words) (option_or (single_entry name words) (bare_entry name words)))

-- the entry of this line, which stands there without its line feed
abbrev pub entry_of_line : List ℕ → Option Entry
entry_of_line text = entry_of_words (words_of text)

-- the bytes and a line feed are the line of this entry, whose numbers are in the ranges of their types
abbrev pub IsEntryLine : List ℕ → Entry → Type 0
IsEntryLine text entry = (text ++ 10 ∷ [] ≡ entry_line entry) × IsTrue (entry_fits entry)

-- no entry whose numbers are in the ranges of their types has this line
abbrev pub IsNoEntryLine : List ℕ → Type 0
IsNoEntryLine text = (entry : Entry) → IsTrue (entry_fits entry) → text ++ 10 ∷ [] ≢ entry_line entry
