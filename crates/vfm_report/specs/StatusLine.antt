-- The status lines that may begin a report: each that a run or a load can end with, its numbers in their ranges.
use Rattle.std.specs.Prelude.{ℕ, ◌/◌, ◌&&◌, ◌||◌, Bool, false, nat_le, nat_lt, List, [], ◌∷◌, length, Option, Some, None, is_some, codes, if◌then◌else◌}
use Rattle.std.specs.List.{list_any}
use Rattle.vfm_types.specs.declared.desc.Desc.{Desc}
use Rattle.vfm_types.specs.Desc.{device_count, shape_at}
use Rattle.vfm_report.specs.Same.{same_text}
use Rattle.vfm_report.specs.Split.{split, words_of}
use Rattle.vfm_report.specs.Numbers.{number_of, long_number}
use Rattle.vfm_report.specs.HexWord.{is_hex}
use Rattle.vfm_report.specs.States.{state_named}

-- the word is one of these
abbrev pub is_one_of : List (List ℕ) → List ℕ → Bool
is_one_of texts word = list_any (λ text. same_text word text) texts

-- the members of a description, of a device and of a job
abbrev pub top_members : List (List ℕ)
top_members =
    codes "session" ∷ codes "page" ∷ codes "pages" ∷ codes "channels" ∷ codes "version" ∷ codes "begin" ∷ codes "rounds"
    ∷ codes "threshold" ∷ codes "devices" ∷ []

abbrev pub device_members : List (List ℕ)
device_members =
    codes "name" ∷ codes "flags" ∷ codes "bar" ∷ codes "window" ∷ codes "tells" ∷ codes "budget" ∷ codes "fails"
    ∷ codes "jobs" ∷ codes "queue" ∷ []

abbrev pub job_members : List (List ℕ)
job_members = codes "kind" ∷ codes "at" ∷ codes "hex" ∷ codes "len" ∷ codes "value" ∷ []

-- the number there is one, below the bound
abbrev pub is_below : ℕ → Option ℕ → Bool
is_below bound None = false
is_below bound (Some n) = nat_lt n bound

-- the word is the number of a device
abbrev pub is_device : Desc → List ℕ → Bool
is_device D word = is_below (device_count D) (number_of word)

-- of that device, the word is the number of a job
abbrev pub is_job : Desc → Option ℕ → List ℕ → Bool
is_job D None word = false
is_job D (Some d) word = nat_lt d (device_count D) && is_below (length (shape_at D d).jobs) (number_of word)

-- the parts of a word between its dots name a device
abbrev pub names_device : Desc → List (List ℕ) → Bool
names_device D (a ∷ d ∷ []) = same_text a (codes "devices") && is_device D d
names_device D _ = false

-- a job of a device
abbrev pub names_job : Desc → List (List ℕ) → Bool
names_job D (a ∷ d ∷ b ∷ j ∷ []) = same_text a (codes "devices") && same_text b (codes "jobs") && is_job D (number_of d) j
names_job D _ = false

-- a member with its device and job, if it has them
abbrev pub names_member : Desc → List (List ℕ) → Bool
names_member D (a ∷ []) = is_one_of top_members a
names_member D (a ∷ d ∷ m ∷ []) = names_device D (a ∷ d ∷ []) && is_one_of device_members m
names_member D (a ∷ d ∷ b ∷ j ∷ m ∷ []) = names_job D (a ∷ d ∷ b ∷ j ∷ []) && is_one_of job_members m
names_member D _ = false

-- the parts of a word between its dots
abbrev pub dotted : List ℕ → List (List ℕ)
dotted word = split 46 word

-- 1 to 44 bytes as digits, or a dash
abbrev pub is_heard : List ℕ → Bool
is_heard word =
    same_text word (codes "-")
    || (nat_le 1 (length word / 2) && nat_le (length word / 2) 44 && is_hex (length word / 2) word)

-- a status that is nothing more than a word
abbrev pub bare_statuses : List (List ℕ)
bare_statuses = codes "moved" ∷ codes "bad-words" ∷ codes "read-fault" ∷ codes "differs" ∷ codes "no-memory" ∷ []

abbrev pub one_word_status : Desc → List ℕ → Bool
one_word_status D a = is_one_of bare_statuses a

-- a status of two words
abbrev pub two_words_status : Desc → List ℕ → List ℕ → Bool
two_words_status D a b =
    if same_text a (codes "bad-description") then is_one_of (codes "not-json" ∷ codes "too-long" ∷ []) b else
    (if same_text a (codes "link-fault") then is_one_of (codes "connect" ∷ codes "control" ∷ []) b else
    (if same_text a (codes "in-doubt") then is_one_of (codes "send" ∷ codes "read" ∷ []) b else
    (if same_text a (codes "aborted") then is_some (number_of b) else
    (if same_text a (codes "no-control") then is_heard b else false))))

-- faults of a description that have a member, a device or a job
abbrev pub member_faults : List (List ℕ)
member_faults = codes "missing" ∷ codes "kind" ∷ codes "range" ∷ codes "not-yet" ∷ []

abbrev pub device_faults : List (List ℕ)
device_faults = codes "name-twice" ∷ codes "needs-p2p" ∷ []

abbrev pub job_faults : List (List ℕ)
job_faults = codes "crosses" ∷ codes "own-bar" ∷ codes "bell-kind" ∷ []

-- the ends of a channel
abbrev pub ends : List (List ℕ)
ends = codes "source" ∷ codes "destination" ∷ []

-- what a faulty description has, and where
abbrev pub is_fault_at : Desc → List ℕ → List ℕ → Bool
is_fault_at D b c =
    if is_one_of member_faults b then names_member D (dotted c) else
    (if is_one_of device_faults b then names_device D (dotted c) else
    (if is_one_of job_faults b then names_job D (dotted c) else false))

-- a status of three words
abbrev pub three_words_status : Desc → List ℕ → List ℕ → List ℕ → Bool
three_words_status D a b c =
    if same_text a (codes "bad-description") then is_fault_at D b c else
    (if same_text a (codes "link-fault") then is_one_of ends b && is_some (number_of c) else
    (if same_text a (codes "unconfirmed") then is_hex 32 b && is_hex 32 c else
    (if same_text a (codes "in-doubt") then same_text b (codes "no-go") && is_heard c else
    (if same_text a (codes "arc-failed") then is_device D b && is_some (state_named c) else false))))

-- a status of four words
abbrev pub four_words_status : Desc → List ℕ → List ℕ → List ℕ → List ℕ → Bool
four_words_status D a b c e =
    if same_text a (codes "refused") then is_some (number_of b) && is_some (long_number c) && is_some (long_number e) else
    (if same_text a (codes "in-doubt") then same_text b (codes "other") && is_hex 32 c && is_hex 32 e else false)

-- the words after `status`
abbrev pub is_status : Desc → List (List ℕ) → Bool
is_status D (a ∷ []) = one_word_status D a
is_status D (a ∷ b ∷ []) = two_words_status D a b
is_status D (a ∷ b ∷ c ∷ []) = three_words_status D a b c
is_status D (a ∷ b ∷ c ∷ e ∷ []) = four_words_status D a b c e
is_status D _ = false

abbrev pub are_status_words : Desc → List (List ℕ) → Bool
are_status_words D [] = false
are_status_words D (word ∷ words) = same_text word (codes "status") && is_status D words

-- the line, which stands there without its line feed, is one of these
abbrev pub is_status_line : Desc → List ℕ → Bool
is_status_line D text = are_status_words D (words_of text)
