-- The parts of a report are read exactly.
use Rattle.std.proofs.Common.{◌≡◌, ℕ, zero, suc, ◌+◌, ◌<◌, ◌^◌, List, [], ◌∷◌, ◌++◌, length, take, drop, Option, Some, None, true, false, Bool, refl, ap, sym, subst, ◌∙◌, decimal, arith, length-append, length-drop}
use Rattle.std.specs.Prelude.{codes, sum, is_none, ◌≤◌}
use Rattle.std.proofs.lemmas.List.{take-append-drop}
use Rattle.std.proofs.lemmas.List.Sums.{sum_by-cons}
use Rattle.hex.specs.Hex.{IsBytes}
use Rattle.vfm_types.specs.declared.entry.Entry.{Entry}
use Rattle.vfm_types.specs.declared.desc.Desc.{Desc}
use Rattle.vfm_types.specs.Desc.{device_count, shape_at}
use Rattle.vfm_types.specs.Machine.{DeviceState, Machine}
use Rattle.vfm_report.specs.Same.{same_text}
use Rattle.vfm_report.specs.Split.{is_without, split, words_of}
use Rattle.vfm_report.specs.Found.{Found, Read, Bad, Reader, one_line, this_line, many_lines, in_turn, row}
use Rattle.vfm_report.specs.Readers.{page_in, counts_in, buf_in, only_bar_in, bar_in, pending_in, entry_in, numbered_bars, bars_reader, device_from, device_reader, machine_from, state_reader, journal_reader, Parts, parts_reader}
use Rattle.vfm_report.specs.Printed.{Each, EachOf, IsSized, IsPrintedRequest, AreCounts, IsPrintedDevice, IsPrintedState, IsPrintedEntry, IsPrintedJournal, IfThere}
use Rattle.vfm_report.proofs.Joins.{split-joined}
use Rattle.vfm_report.proofs.EntryWords.{entry_words}
use Rattle.vfm_report.proofs.LineKinds.{line_of, byte_words, bytes-exact, bar_words, bar-exact, pending_words, pending-exact, counts_words, counts-words-without, counts-exact, entry-exact, title-exact}
use Rattle.vfm_report.proofs.Exact.{Exact, stands, any_line, stands-any, same_value, same_rest, one-exact, turn-exact, map-exact, many-exact, lines_each, row-exact, row_text, row_stop, titled-exact, titled_text, titled_stop}

abbrev Lines : Type 0
Lines = List (List ℕ)

-- ---- bytes

cons-bytes : (b : ℕ) (xs : List ℕ) → b < 256 → IsBytes xs → IsBytes (b ∷ xs)
cons-bytes b xs small h zero = small
cons-bytes b xs small h (suc k) = h k

append-bytes : (xs ys : List ℕ) → IsBytes xs → IsBytes ys → IsBytes (xs ++ ys)
append-bytes [] ys h j = j
append-bytes (x ∷ xs) ys h j = cons-bytes x (xs ++ ys) (h 0) (append-bytes xs ys (λ k. h (suc k)) j)

pub take-bytes : (n : ℕ) (xs : List ℕ) → IsBytes xs → IsBytes (take n xs)
take-bytes zero xs h = λ k. omega arith
take-bytes (suc n) [] h = λ k. omega arith
take-bytes (suc n) (x ∷ xs) h = cons-bytes x (take n xs) (h 0) (take-bytes n xs (λ k. h (suc k)))

pub drop-bytes : (n : ℕ) (xs : List ℕ) → IsBytes xs → IsBytes (drop n xs)
drop-bytes zero xs h = h
drop-bytes (suc n) [] h = h
drop-bytes (suc n) (x ∷ xs) h = drop-bytes n xs (λ k. h (suc k))

zeros : ℕ → List ℕ
zeros zero = []
zeros (suc n) = 0 ∷ zeros n

zeros-sized : (n : ℕ) → IsSized n (zeros n)
unfolding zeros
zeros-sized zero = record { many = refl; small = λ k. omega arith }
zeros-sized (suc n) = let h = zeros-sized n in record { many = omega (arith, h.many); small = cons-bytes 0 (zeros n) (omega arith) h.small }

take-front : (xs ys : List ℕ) (n : ℕ) → length xs ≡ n → take n (xs ++ ys) ≡ xs
take-front [] [] zero h = refl
take-front [] (y ∷ ys) zero h = refl
take-front [] ys (suc n) h = absurd (omega arith)
take-front (x ∷ xs) ys zero h = absurd (omega arith)
take-front (x ∷ xs) ys (suc n) h = ap (λ (r : List ℕ). x ∷ r) (take-front xs ys n (omega arith))

drop-front : (xs ys : List ℕ) (n : ℕ) → length xs ≡ n → drop n (xs ++ ys) ≡ ys
drop-front [] ys zero h = refl
drop-front [] ys (suc n) h = absurd (omega arith)
drop-front (x ∷ xs) ys zero h = absurd (omega arith)
drop-front (x ∷ xs) ys (suc n) h = drop-front xs ys n (omega arith)

length-taken : (n m : ℕ) (xs : List ℕ) → length xs ≡ n + m → length (take n xs) ≡ n
length-taken zero m xs h = refl
length-taken (suc n) m [] h = absurd (omega arith)
length-taken (suc n) m (x ∷ xs) h = omega (arith, length-taken n m xs (omega arith))

sum-cons : (x : ℕ) (xs : List ℕ) → sum (x ∷ xs) ≡ x + sum xs
sum-cons x xs = sum_by-cons (λ (y : ℕ). y) x xs

-- ---- BARs

-- the lines of BARs of these sizes, numbered from k on
abbrev pub bars_lines : ℕ → ℕ → List ℕ → List ℕ → Lines
bars_lines d k [] bytes = []
bars_lines d k (size ∷ sizes) bytes = line_of (bar_words d k (take size bytes)) ∷ bars_lines d (k + 1) sizes (drop size bytes)

-- a reader that reads nothing
empty-exact : {X : Type 0} (x₀ : X) (text : X → Lines) (ok : X → Type 0) → ok x₀ → text x₀ ≡ [] → ((x : X) → ok x → x ≡ x₀) → Exact text ok any_line (λ lines. Read x₀ lines)
empty-exact {X} x₀ text ok h₀ none only =
    record {
      sound = λ lines rest x h. let same = same_value x₀ x lines rest h in (subst ok same h₀, same_rest x₀ x lines rest h ∙ ap (λ (t : Lines). t ++ rest) (sym none ∙ ap text same));
      keeps = λ lines rest x h good l after other is. let same = same_value x₀ x lines rest h in
          ap (λ (t : Lines). Read x₀ (t ++ (good ++ l ∷ other))) (sym (ap text same) ∙ none) ∙ ap (λ (y : X). Read y (good ++ l ∷ other)) same;
      own = λ x rest h s. ap (λ (t : Lines). Read x₀ (t ++ rest)) (ap text (only x h) ∙ none) ∙ ap (λ (y : X). Read y rest) (sym (only x h));
      bad = λ lines rest h. absurd (never lines rest h);
    }
  where
    never : (lines rest : Lines) → ◌≡◌ {A = Found X} (Read x₀ lines) (Bad rest) → ⊥
    never lines rest h = cc h

-- one after the other, where any line may stand after the first
turn-any : {X Y : Type 0} (text₁ : X → Lines) (ok₁ : X → Type 0) (first : Reader X) (text₂ : Y → Lines) (ok₂ : Y → Type 0) (stop : List ℕ → Bool) (second : Reader Y)
    (y₀ : Y) → ok₂ y₀ → Exact text₁ ok₁ any_line first → Exact text₂ ok₂ stop second → Exact {X = X × Y} (λ p. text₁ p.0 ++ text₂ p.1) (λ p. ok₁ p.0 × ok₂ p.1) stop (in_turn first second)
turn-any text₁ ok₁ first text₂ ok₂ stop second y₀ ok₀ one two =
    turn-exact text₁ ok₁ any_line first text₂ ok₂ stop second stop y₀ ok₀ one two (λ y rest h s. (s, stands-any (text₂ y ++ rest)))

length-zero : (xs : List ℕ) → length xs ≡ 0 → xs ≡ []
length-zero [] h = refl
length-zero (x ∷ xs) h = absurd (omega arith)

pub numbered-exact : (d k : ℕ) (sizes : List ℕ) → Exact (bars_lines d k sizes) (IsSized (sum sizes)) any_line (numbered_bars d k sizes)
numbered-exact d k [] = empty-exact [] (bars_lines d k []) (IsSized 0) (record { many = refl; small = λ i. omega arith }) refl (λ x h. length-zero x h.many)
numbered-exact d k (size ∷ sizes) =
    let first = one-exact (λ bytes. line_of (bar_words d k bytes)) (IsSized size) (bar_in d k size) (zeros size) (zeros-sized size) (bar-exact d k size) in
    let more = numbered-exact d (k + 1) sizes in
    let pair = turn-any (λ bytes. line_of (bar_words d k bytes) ∷ []) (IsSized size) (one_line (bar_in d k size)) (bars_lines d (k + 1) sizes) (IsSized (sum sizes)) any_line (numbered_bars d (k + 1) sizes)
    (zeros (sum sizes)) (zeros-sized (sum sizes)) first more in
    map-exact (λ (p : List ℕ × List ℕ). line_of (bar_words d k p.0) ∷ [] ++ bars_lines d (k + 1) sizes p.1) (λ (p : List ℕ × List ℕ). IsSized size p.0 × IsSized (sum sizes) p.1)
    (bars_lines d k (size ∷ sizes)) (IsSized (sum (size ∷ sizes))) any_line _ (λ (p : List ℕ × List ℕ). p.0 ++ p.1) pair to from
  where
    to : (p : List ℕ × List ℕ) → IsSized size p.0 × IsSized (sum sizes) p.1 → IsSized (sum (size ∷ sizes)) (p.0 ++ p.1) × (bars_lines d k (size ∷ sizes) (p.0 ++ p.1) ≡ line_of (bar_words d k p.0) ∷ [] ++ bars_lines d (k + 1) sizes p.1)
    to p h =
        let front = take-front p.0 p.1 size h.0.many in
        let back = drop-front p.0 p.1 size h.0.many in
        (record { many = omega (arith, length-append p.0 p.1, h.0.many, h.1.many, sum-cons size sizes); small = append-bytes p.0 p.1 h.0.small h.1.small }, rw (front, back) refl)

    from : (x : List ℕ) → IsSized (sum (size ∷ sizes)) x → (p : List ℕ × List ℕ) × (p.0 ++ p.1 ≡ x) × (IsSized size p.0 × IsSized (sum sizes) p.1)
    from x h =
        let total : length x ≡ size + sum sizes = h.many ∙ sum-cons size sizes in
        let taken = length-taken size (sum sizes) x total in (
          (take size x, drop size x),
          take-append-drop size x,
          (record { many = taken; small = take-bytes size x h.small }, record { many = omega (arith, length-drop size x, total); small = drop-bytes size x h.small }),
        )

-- the lines of all BARs of a device
abbrev pub all_bars_lines : ℕ → List ℕ → List ℕ → Lines
all_bars_lines d (size ∷ []) bytes = line_of (byte_words (codes "bar") d bytes) ∷ []
all_bars_lines d sizes bytes = bars_lines d 0 sizes bytes

pub bars-exact : (d : ℕ) (sizes : List ℕ) → Exact (all_bars_lines d sizes) (IsSized (sum sizes)) any_line (bars_reader d sizes)
bars-exact d [] = numbered-exact d 0 []
bars-exact d (size ∷ []) =
    let same : sum (size ∷ []) ≡ size = omega (arith, sum-cons size []) in
    subst (λ (n : ℕ). Exact (λ bytes. line_of (byte_words (codes "bar") d bytes) ∷ []) (IsSized n) any_line (one_line (only_bar_in d size))) (sym same)
    (one-exact (λ bytes. line_of (byte_words (codes "bar") d bytes)) (IsSized size) (only_bar_in d size) (zeros size) (zeros-sized size) (bytes-exact (codes "bar") d size refl))
bars-exact d (size ∷ next ∷ sizes) = numbered-exact d 0 (size ∷ next ∷ sizes)

-- ---- a device

-- names have no blank and no line feed, and no device has more jobs than there are numbers
pub record IsClear (D : Desc) (d : ℕ) : Type 0 where
  pub blank : is_without 32 (shape_at D d).name ≡ true
  pub feed : is_without 10 (shape_at D d).name ≡ true
  pub jobs : length (shape_at D d).jobs ≤ 2 ^ 32

-- the lines of device d
abbrev pub device_lines : Desc → ℕ → DeviceState → Lines
device_lines D d dev =
    line_of (counts_words d (shape_at D d).name (dev.accepted, dev.done, dev.lost)) ∷ []
    ++ (line_of (byte_words (codes "buf") d dev.buf) ∷ []
    ++ (all_bars_lines d (shape_at D d).bars dev.bar ++ lines_each (λ r. line_of (pending_words d r)) dev.pending))

-- what may stand after a device
abbrev pub device_stop : Desc → ℕ → List ℕ → Bool
device_stop D d l = is_none (pending_in D d l)

no_counts : AreCounts (0, 0, 0)
no_counts = record { accepted = omega arith; done = omega arith; lost = omega arith }

pub device-exact : (D : Desc) (d : ℕ) → IsClear D d → Exact (device_lines D d) (IsPrintedDevice D d) (device_stop D d) (device_reader D d)
device-exact D d clear =
    let shape = shape_at D d in
    let pending = many-exact (λ r. line_of (pending_words d r)) (IsPrintedRequest D d) (pending_in D d) (pending-exact D d clear.jobs) in
    let bars = bars-exact d shape.bars in
    let buf = one-exact (λ bytes. line_of (byte_words (codes "buf") d bytes)) (IsSized 64) (buf_in d) (zeros 64) (zeros-sized 64) (bytes-exact (codes "buf") d 64 refl) in
    let counts = one-exact (λ c. line_of (counts_words d shape.name c)) AreCounts (counts_in D d) (0, 0, 0) no_counts (counts-exact D d clear.blank) in
    let last = turn-any (all_bars_lines d shape.bars) (IsSized (sum shape.bars)) (bars_reader d shape.bars) (lines_each (λ r. line_of (pending_words d r))) (Each (IsPrintedRequest D d)) (device_stop D d) (many_lines (pending_in D d))
    [] tt bars pending in
    let middle = turn-any (λ bytes. line_of (byte_words (codes "buf") d bytes) ∷ []) (IsSized 64) (one_line (buf_in d)) _ _ (device_stop D d) _
    (zeros (sum shape.bars), []) (zeros-sized (sum shape.bars), tt) buf last in
    let whole = turn-any (λ c. line_of (counts_words d shape.name c) ∷ []) AreCounts (one_line (counts_in D d)) _ _ (device_stop D d) _
    (zeros 64, (zeros (sum shape.bars), [])) (zeros-sized 64, (zeros-sized (sum shape.bars), tt)) counts middle in
    map-exact _ _ (device_lines D d) (IsPrintedDevice D d) (device_stop D d) _ device_from whole
    (λ p h. (record { counts = h.0; buf = h.1.0; bar = h.1.1.0; pending = h.1.1.1 }, refl))
    (λ dev h. (((dev.accepted, dev.done, dev.lost), (dev.buf, (dev.bar, dev.pending))), refl, (h.counts, (h.buf, (h.bar, h.pending)))))

-- ---- a state

-- a line of another first word is no pending request
other-word : (D : Desc) (d : ℕ) (l w : List ℕ) (ws : List (List ℕ)) → words_of l ≡ w ∷ ws → same_text w (codes "pend") ≡ false → device_stop D d l ≡ true
other-word D d l w ws words other = rw (words, other) refl

-- the next device may stand after a device
next-device : (D : Desc) → ((d : ℕ) → IsClear D d) → (k : ℕ) (dev : DeviceState) (rest : Lines) → IsPrintedDevice D (k + 1) dev → stands (device_stop D k) (device_lines D (k + 1) dev ++ rest) ≡ true
next-device D clear k dev rest h =
    let name = (shape_at D (k + 1)).name in
    let c : ℕ × ℕ × ℕ = (dev.accepted, dev.done, dev.lost) in
    other-word D k (line_of (counts_words (k + 1) name c)) (codes "device") _
    (split-joined 32 (codes "device") (decimal (k + 1) ∷ name ∷ codes "accepted" ∷ decimal c.0 ∷ codes "done" ∷ decimal c.1 ∷ codes "lost" ∷ decimal c.2 ∷ [])
    (counts-words-without 32 (k + 1) name c (omega arith) (clear (k + 1)).blank)) refl

-- a device of zeros
zero_device : Desc → ℕ → DeviceState
zero_device D d = record { bar = zeros (sum (shape_at D d).bars); pending = []; buf = zeros 64; accepted = 0; done = 0; lost = 0 }

zero_device-ok : (D : Desc) (d : ℕ) → IsPrintedDevice D d (zero_device D d)
unfolding zero_device
zero_device-ok D d = record { counts = no_counts; buf = zeros-sized 64; bar = zeros-sized (sum (shape_at D d).bars); pending = tt }

-- the lines of page p, and of a state
abbrev pub page_lines : ℕ → List ℕ → Lines
page_lines p bytes = line_of (byte_words (codes "page") p bytes) ∷ []

abbrev pub state_lines : Desc → Machine → Lines
state_lines D m = row_text page_lines 0 m.pages ++ row_text (device_lines D) 0 m.devices

abbrev pub state_stop : Desc → List ℕ → Bool
state_stop D = row_stop (device_stop D) (device_count D) 0

any-row : (n k : ℕ) (rest : Lines) → stands (row_stop (λ p. any_line) n k) rest ≡ true
any-row zero k rest = stands-any rest
any-row (suc zero) k rest = stands-any rest
any-row (suc (suc n)) k rest = any-row (suc n) (k + 1) rest

zero_devices : Desc → ℕ → ℕ → List DeviceState
zero_devices D zero k = []
zero_devices D (suc n) k = zero_device D k ∷ zero_devices D n (k + 1)

zero_devices-ok : (D : Desc) (n k : ℕ) → EachOf (IsPrintedDevice D) n k (zero_devices D n k)
unfolding zero_devices
zero_devices-ok D zero k = tt
zero_devices-ok D (suc n) k = (zero_device-ok D k, zero_devices-ok D n (k + 1))

pub state-exact : (D : Desc) → ((d : ℕ) → IsClear D d) → Exact (state_lines D) (IsPrintedState D) (state_stop D) (state_reader D)
state-exact D clear =
    let page = λ (p : ℕ). one-exact (λ bytes. line_of (byte_words (codes "page") p bytes)) (IsSized D.page) (page_in D p) (zeros D.page) (zeros-sized D.page) (bytes-exact (codes "page") p D.page refl) in
    let pages = row-exact page_lines (λ p. IsSized D.page) (λ p. any_line) (λ p. one_line (page_in D p)) (λ p. zeros D.page) (λ p. zeros-sized D.page) page
    (λ k x rest h. stands-any (page_lines (k + 1) x ++ rest)) D.pages 0 in
    let devices = row-exact (device_lines D) (IsPrintedDevice D) (device_stop D) (device_reader D) (zero_device D) (zero_device-ok D) (λ d. device-exact D d (clear d)) (next-device D clear) (device_count D) 0 in
    let both = turn-exact (row_text page_lines 0) (EachOf (λ p. IsSized D.page) D.pages 0) (row_stop (λ p. any_line) D.pages 0) (row (λ p. one_line (page_in D p)) D.pages 0)
    (row_text (device_lines D) 0) (EachOf (IsPrintedDevice D) (device_count D) 0) (state_stop D) (row (device_reader D) (device_count D) 0) (state_stop D)
    (zero_devices D (device_count D) 0) (zero_devices-ok D (device_count D) 0) pages devices
    (λ y rest h s. (s, any-row D.pages 0 (row_text (device_lines D) 0 y ++ rest))) in
    map-exact _ _ (state_lines D) (IsPrintedState D) (state_stop D) _ machine_from both
    (λ p h. (record { pages = h.0; devices = h.1 }, refl))
    (λ m h. ((m.pages, m.devices), refl, (h.pages, h.devices)))

-- a title may stand after a state
title-after : (D : Desc) (title : List ℕ) → ((d : ℕ) → device_stop D d title ≡ true) → (n k : ℕ) → row_stop (device_stop D) n k title ≡ true
title-after D title h zero k = refl
title-after D title h (suc zero) k = h k
title-after D title h (suc (suc n)) k = title-after D title h (suc n) (k + 1)

-- ---- what follows a status line

abbrev pub journal_lines : List Entry → Lines
journal_lines entries = lines_each (λ e. line_of (entry_words e)) entries

abbrev pub journal_stop : Desc → List ℕ → Bool
journal_stop D l = is_none (entry_in D l)

pub journal-exact : (D : Desc) → Exact journal_lines (IsPrintedJournal D) (journal_stop D) (journal_reader D)
journal-exact D = many-exact (λ e. line_of (entry_words e)) (IsPrintedEntry D) (entry_in D) (entry-exact D)

-- whatever is read next may stand there
abbrev Heads : {Y : Type 0} → (List ℕ → Bool) → (Y → Lines) → (Y → Type 0) → Type 0
Heads {Y} stop text ok = (y : Y) (rest : Lines) → ok y → stands stop (text y ++ rest) ≡ true

heads-titled : {X Y : Type 0} (stop : List ℕ → Bool) (title : List ℕ) (text₁ : X → Lines) (ok₁ : X → Type 0) (text₂ : Y → Lines) (ok₂ : Y → Type 0) → stop title ≡ true → Heads stop text₂ ok₂
    → Heads {Y = Option X × Y} stop (λ p. titled_text title text₁ p.0 ++ text₂ p.1) (λ p. IfThere ok₁ p.0 × ok₂ p.1)
heads-titled {X} {Y} stop title text₁ ok₁ text₂ ok₂ may more p rest h = by p.0
  where
    by : (x : Option X) → stands stop ((titled_text title text₁ x ++ text₂ p.1) ++ rest) ≡ true
    by None = more p.1 rest h.1
    by (Some x) = may

-- a part, and what follows it
part : {X Y : Type 0} (text₁ : X → Lines) (ok₁ : X → Type 0) (stop₁ : List ℕ → Bool) (first : Reader X) (text₂ : Y → Lines) (ok₂ : Y → Type 0) (second : Reader Y) (y₀ : Y) → ok₂ y₀
    → Exact text₁ ok₁ stop₁ first → Exact text₂ ok₂ any_line second → Heads stop₁ text₂ ok₂ → Exact {X = X × Y} (λ p. text₁ p.0 ++ text₂ p.1) (λ p. ok₁ p.0 × ok₂ p.1) any_line (in_turn first second)
part text₁ ok₁ stop₁ first text₂ ok₂ second y₀ ok₀ one two heads =
    turn-exact text₁ ok₁ stop₁ first text₂ ok₂ any_line second any_line y₀ ok₀ one two (λ y rest h s. (s, heads y rest h))

-- titles may stand after a state, and after a journal
after-state : (D : Desc) (title w : List ℕ) (ws : List (List ℕ)) → words_of title ≡ w ∷ ws → same_text w (codes "pend") ≡ false → state_stop D title ≡ true
after-state D title w ws words other = title-after D title (λ d. other-word D d title w ws words other) (device_count D) 0

loaded-after : (D : Desc) → state_stop D (codes "state loaded") ≡ true
unfolding split
loaded-after D = after-state D (codes "state loaded") (codes "state") (codes "loaded" ∷ []) refl refl

destination-after : (D : Desc) → state_stop D (codes "journal destination") ≡ true
unfolding split
destination-after D = after-state D (codes "journal destination") (codes "journal") (codes "destination" ∷ []) refl refl

final-after : (D : Desc) → state_stop D (codes "state final") ≡ true
unfolding split
final-after D = after-state D (codes "state final") (codes "state") (codes "final" ∷ []) refl refl

end-after : (D : Desc) → state_stop D (codes "end") ≡ true
unfolding split
end-after D = after-state D (codes "end") (codes "end") [] refl refl

journal-stops : (D : Desc) → (journal_stop D (codes "state joint") ≡ true) × (journal_stop D (codes "state loaded") ≡ true) × (journal_stop D (codes "journal destination") ≡ true) × (journal_stop D (codes "state final") ≡ true) × (journal_stop D (codes "end") ≡ true)
unfolding split
journal-stops D = (refl, refl, refl, refl, refl)

-- what stands after the status line
abbrev pub parts_lines : Desc → Parts → Lines
parts_lines D p =
    codes "journal source" ∷ []
    ++ (journal_lines p.1.0
    ++ (titled_text (codes "state joint") (state_lines D) p.1.1.0
    ++ (titled_text (codes "state loaded") (state_lines D) p.1.1.1.0
    ++ (titled_text (codes "journal destination") journal_lines p.1.1.1.1.0
    ++ (titled_text (codes "state final") (state_lines D) p.1.1.1.1.1.0 ++ codes "end" ∷ [])))))

abbrev pub ArePrinted : Desc → Parts → Type 0
ArePrinted D p =
    Unit {0} × (IsPrintedJournal D p.1.0 × (IfThere (IsPrintedState D) p.1.1.0 × (IfThere (IsPrintedState D) p.1.1.1.0
    × (IfThere (IsPrintedJournal D) p.1.1.1.1.0 × (IfThere (IsPrintedState D) p.1.1.1.1.1.0 × Unit {0})))))

end-head : (stop : List ℕ → Bool) → stop (codes "end") ≡ true → Heads {Y = Unit {0}} stop (λ u. codes "end" ∷ []) (λ u. Unit {0})
end-head stop may u rest h = may

pub parts-exact : (D : Desc) → ((d : ℕ) → IsClear D d) → Exact (parts_lines D) (ArePrinted D) any_line (parts_reader D)
parts-exact D clear =
    let state = state-exact D clear in
    let journal = journal-exact D in
    let js = journal-stops D in
    let S = state_lines D in
    let okS = IsPrintedState D in
    let okJ = IsPrintedJournal D in
    let stop-j : List ℕ → Bool = titled_stop (codes "state joint") (state_stop D) in
    let stop-l : List ℕ → Bool = titled_stop (codes "state loaded") (state_stop D) in
    let stop-d : List ℕ → Bool = titled_stop (codes "journal destination") (journal_stop D) in
    let stop-f : List ℕ → Bool = titled_stop (codes "state final") (state_stop D) in
    let tJ = titled-exact (codes "state joint") S okS (state_stop D) (state_reader D) state in
    let tL = titled-exact (codes "state loaded") S okS (state_stop D) (state_reader D) state in
    let tD = titled-exact (codes "journal destination") journal_lines okJ (journal_stop D) (journal_reader D) journal in
    let tF = titled-exact (codes "state final") S okS (state_stop D) (state_reader D) state in
    let e7 = one-exact (λ (u : Unit {0}). codes "end") (λ u. Unit {0}) _ tt tt (title-exact (codes "end")) in
    let p6 = part (titled_text (codes "state final") S) (IfThere okS) stop-f _ (λ (u : Unit {0}). codes "end" ∷ []) (λ u. Unit {0}) _ tt tt tF e7 (end-head stop-f (end-after D)) in
    let p5 = part (titled_text (codes "journal destination") journal_lines) (IfThere okJ) stop-d _ _ _ _ (None, tt) (tt, tt) tD p6
    (heads-titled stop-d (codes "state final") S okS (λ (u : Unit {0}). codes "end" ∷ []) (λ u. Unit {0}) js.3 (end-head stop-d js.4)) in
    let p4 = part (titled_text (codes "state loaded") S) (IfThere okS) stop-l _ _ _ _ (None, (None, tt)) (tt, (tt, tt)) tL p5
    (heads-titled stop-l (codes "journal destination") journal_lines okJ _ _ (destination-after D)
    (heads-titled stop-l (codes "state final") S okS (λ (u : Unit {0}). codes "end" ∷ []) (λ u. Unit {0}) (final-after D) (end-head stop-l (end-after D)))) in
    let p3 = part (titled_text (codes "state joint") S) (IfThere okS) stop-j _ _ _ _ (None, (None, (None, tt))) (tt, (tt, (tt, tt))) tJ p4
    (heads-titled stop-j (codes "state loaded") S okS _ _ (loaded-after D)
    (heads-titled stop-j (codes "journal destination") journal_lines okJ _ _ (destination-after D)
    (heads-titled stop-j (codes "state final") S okS (λ (u : Unit {0}). codes "end" ∷ []) (λ u. Unit {0}) (final-after D) (end-head stop-j (end-after D))))) in
    let p2 = part journal_lines okJ (journal_stop D) (journal_reader D) _ _ _ (None, (None, (None, (None, tt)))) (tt, (tt, (tt, (tt, tt)))) journal p3
    (heads-titled (journal_stop D) (codes "state joint") S okS _ _ js.0
    (heads-titled (journal_stop D) (codes "state loaded") S okS _ _ js.1
    (heads-titled (journal_stop D) (codes "journal destination") journal_lines okJ _ _ js.2
    (heads-titled (journal_stop D) (codes "state final") S okS (λ (u : Unit {0}). codes "end" ∷ []) (λ u. Unit {0}) js.3 (end-head (journal_stop D) js.4))))) in
    turn-any (λ (u : Unit {0}). codes "journal source" ∷ []) (λ u. Unit {0}) (this_line (codes "journal source")) _ _ any_line _
    ([], (None, (None, (None, (None, tt))))) (tt, (tt, (tt, (tt, (tt, tt))))) (one-exact (λ (u : Unit {0}). codes "journal source") (λ u. Unit {0}) _ tt tt (title-exact (codes "journal source"))) p2
