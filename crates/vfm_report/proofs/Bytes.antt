-- The lines of a report's parts put together are the parts' texts.
use Rattle.std.proofs.Common.{◌≡◌, ℕ, zero, suc, ◌+◌, List, [], ◌∷◌, ◌++◌, take, drop, Option, Some, None, true, refl, ap, sym, ◌∙◌, decimal, arith, append_assoc, append-nil}
use Rattle.std.specs.Prelude.{codes, not, ◌==◌}
use Rattle.std.specs.List.{flat_map}
use Rattle.std.proofs.lemmas.Bool.{and_from, and_parts}
use Rattle.vfm_types.specs.declared.entry.Entry.{Entry}
use Rattle.vfm_types.specs.declared.entry.Entry.TheVariants.{Issue, Deliver, Complete, Hold, Arc, Fail, Report, Pass, Copy, Block, Dry, Begin, Joint, Abort, Resume}
use Rattle.vfm_types.specs.declared.state.MigState.{MigState}
use Rattle.vfm_types.specs.declared.state.MigState.TheVariants.{Error, Stop, Running, StopCopy, Resuming, RunningP2p, PreCopy, PreCopyP2p}
use Rattle.vfm_types.specs.declared.desc.Desc.{Desc}
use Rattle.vfm_types.specs.Desc.{shape_at, device_count}
use Rattle.vfm_types.specs.Machine.{DeviceState, Machine}
use Rattle.vfm_plain.specs.Text.{numbered_text, state_name}
use Rattle.vfm_plain.specs.EntryText.{journal_text}
use Rattle.vfm_plain.specs.StateText.{page_line, pending_line, numbered_bar_line, pieces, bars_text, described_text, devices_text, state_text}
use Rattle.vfm_plain.specs.Report.{if_there, parts_text}
use Rattle.vfm_report.specs.Split.{is_without}
use Rattle.vfm_report.specs.LineList.{unlined}
use Rattle.vfm_report.specs.Readers.{Parts, made_from}
use Rattle.vfm_report.specs.Printed.{EachOf, IsSized, IsPrintedDevice, IsPrintedState, IsPrintedJournal, IfThere}
use Rattle.vfm_report.proofs.Joins.{all_without}
use Rattle.vfm_report.proofs.Blanks.{without-decimal}
use Rattle.vfm_report.proofs.EntryWords.{entry_words, entry_line-words}
use Rattle.vfm_report.proofs.LineLists.{are_clean}
use Rattle.vfm_report.proofs.LineKinds.{line_of, byte_words, byte-words-without, bar_words, bar-words-without, pending_words, pending-words-without, counts_words, counts-words-without}
use Rattle.vfm_report.proofs.Exact.{lines_each, row_text, titled_text}
use Rattle.vfm_report.proofs.ExactParts.{bars_lines, all_bars_lines, IsClear, device_lines, page_lines, state_lines, journal_lines, parts_lines, ArePrinted, take-bytes, drop-bytes}

abbrev Lines : Type 0
Lines = List (List ℕ)

-- ---- put together

pub unlined-append : (a b : Lines) → unlined (a ++ b) ≡ unlined a ++ unlined b
unlined-append [] b = refl
unlined-append (l ∷ a) b = ap (λ (r : List ℕ). (l ++ 10 ∷ []) ++ r) (unlined-append a b) ∙ sym (append_assoc (l ++ 10 ∷ []) (unlined a) (unlined b))

pub unlined-one : (l : List ℕ) → unlined (l ∷ []) ≡ l ++ 10 ∷ []
unlined-one l = append-nil (l ++ 10 ∷ [])

numbered-lines : {X : Type 0} (text : ℕ → X → List ℕ) (lines : ℕ → X → Lines) → ((k : ℕ) (x : X) → text k x ≡ unlined (lines k x)) → (k : ℕ) (xs : List X) → numbered_text text k xs ≡ unlined (row_text lines k xs)
numbered-lines text lines same k [] = refl
numbered-lines text lines same k (x ∷ xs) =
    ap (λ (r : List ℕ). r ++ numbered_text text (k + 1) xs) (same k x) ∙ ap (λ (r : List ℕ). unlined (lines k x) ++ r) (numbered-lines text lines same (k + 1) xs)
    ∙ sym (unlined-append (lines k x) (row_text lines (k + 1) xs))

numbered-bars : (d k : ℕ) (sizes bytes : List ℕ) → numbered_text (numbered_bar_line d) k (pieces sizes bytes) ≡ unlined (bars_lines d k sizes bytes)
numbered-bars d k [] bytes = refl
numbered-bars d k (size ∷ sizes) bytes = ap (λ (r : List ℕ). numbered_bar_line d k (take size bytes) ++ r) (numbered-bars d (k + 1) sizes (drop size bytes))

bars-lines : (d : ℕ) (sizes bytes : List ℕ) → bars_text d sizes bytes ≡ unlined (all_bars_lines d sizes bytes)
bars-lines d [] bytes = refl
bars-lines d (size ∷ []) bytes = sym (unlined-one (line_of (byte_words (codes "bar") d bytes)))
bars-lines d (size ∷ next ∷ sizes) bytes = numbered-bars d 0 (size ∷ next ∷ sizes) bytes

pending-lines : (d : ℕ) (requests : List (ℕ × ℕ)) → flat_map (pending_line d) requests ≡ unlined (lines_each (λ r. line_of (pending_words d r)) requests)
pending-lines d [] = refl
pending-lines d (r ∷ requests) = ap (λ (t : List ℕ). pending_line d r ++ t) (pending-lines d requests)

device-together : (D : Desc) (d : ℕ) (dev : DeviceState) → described_text D d dev ≡ unlined (device_lines D d dev)
device-together D d dev =
    let shape = shape_at D d in
    let c = line_of (counts_words d shape.name (dev.accepted, dev.done, dev.lost)) in
    let b = line_of (byte_words (codes "buf") d dev.buf) in
    let bars = all_bars_lines d shape.bars dev.bar in
    let pend = lines_each (λ r. line_of (pending_words d r)) dev.pending in
    let C = c ++ 10 ∷ [] in
    let B = b ++ 10 ∷ [] in
    ap (λ (r : List ℕ). C ++ B ++ r ++ flat_map (pending_line d) dev.pending) (bars-lines d shape.bars dev.bar)
    ∙ ap (λ (r : List ℕ). C ++ B ++ unlined bars ++ r) (pending-lines d dev.pending)
    ∙ append_assoc (C ++ B) (unlined bars) (unlined pend) ∙ append_assoc C B (unlined bars ++ unlined pend)
    ∙ ap (λ (r : List ℕ). C ++ (B ++ r)) (sym (unlined-append bars pend))

pub state-together : (D : Desc) (m : Machine) → state_text D m ≡ unlined (state_lines D m)
state-together D m =
    ap (λ (r : List ℕ). r ++ devices_text D 0 m.devices) (numbered-lines page_line page_lines (λ p bytes. sym (unlined-one (line_of (byte_words (codes "page") p bytes)))) 0 m.pages)
    ∙ ap (λ (r : List ℕ). unlined (row_text page_lines 0 m.pages) ++ r) (numbered-lines (described_text D) (device_lines D) (device-together D) 0 m.devices)
    ∙ sym (unlined-append (row_text page_lines 0 m.pages) (row_text (device_lines D) 0 m.devices))

pub journal-together : (entries : List Entry) → journal_text entries ≡ unlined (journal_lines entries)
journal-together [] = refl
journal-together (e ∷ entries) = λ i. entry_line-words e i ++ journal-together entries i

titled-together : {X : Type 0} (title : List ℕ) (text : X → List ℕ) (lines : X → Lines) → ((x : X) → text x ≡ unlined (lines x)) → (o : Option X) → if_there (λ x. (title ++ 10 ∷ []) ++ text x) o ≡ unlined (titled_text title lines o)
titled-together title text lines same None = refl
titled-together title text lines same (Some x) = ap (λ (r : List ℕ). (title ++ 10 ∷ []) ++ r) (same x)

pub parts-together : (D : Desc) (p : Parts) → parts_text (made_from D p) ≡ unlined (parts_lines D p)
parts-together D p =
    let made = made_from D p in
    let j = titled-together (codes "state joint") (state_text D) (state_lines D) (state-together D) made.joint in
    let l = titled-together (codes "state loaded") (state_text D) (state_lines D) (state-together D) made.loaded in
    let d = titled-together (codes "journal destination") journal_text journal_lines journal-together made.destination in
    let f = titled-together (codes "state final") (state_text D) (state_lines D) (state-together D) made.final in
    let T = codes "journal source" ++ 10 ∷ [] in
    let E = codes "end" ++ 10 ∷ [] in
    let J = journal_lines made.source in
    let a : Lines = titled_text (codes "state joint") (state_lines D) made.joint in
    let b : Lines = titled_text (codes "state loaded") (state_lines D) made.loaded in
    let c : Lines = titled_text (codes "journal destination") journal_lines made.destination in
    let e : Lines = titled_text (codes "state final") (state_lines D) made.final in
    (λ i. (T ++ journal-together made.source i) ++ j i ++ l i ++ d i ++ f i ++ E)
    ∙ append_assoc ((T ++ unlined J) ++ unlined a ++ unlined b ++ unlined c) (unlined e) E
    ∙ append_assoc ((T ++ unlined J) ++ unlined a ++ unlined b) (unlined c) (unlined e ++ E)
    ∙ append_assoc ((T ++ unlined J) ++ unlined a) (unlined b) (unlined c ++ (unlined e ++ E))
    ∙ append_assoc (T ++ unlined J) (unlined a) (unlined b ++ (unlined c ++ (unlined e ++ E)))
    ∙ append_assoc T (unlined J) (unlined a ++ (unlined b ++ (unlined c ++ (unlined e ++ E))))
    ∙ sym (ap (λ (r : List ℕ). T ++ r) (unlined-append J (a ++ (b ++ (c ++ (e ++ codes "end" ∷ []))))
    ∙ ap (λ (r : List ℕ). unlined J ++ r) (unlined-append a (b ++ (c ++ (e ++ codes "end" ∷ [])))
    ∙ ap (λ (r : List ℕ). unlined a ++ r) (unlined-append b (c ++ (e ++ codes "end" ∷ []))
    ∙ ap (λ (r : List ℕ). unlined b ++ r) (unlined-append c (e ++ codes "end" ∷ [])
    ∙ ap (λ (r : List ℕ). unlined c ++ r) (unlined-append e (codes "end" ∷ [])))))))

-- ---- no line feed in a line

pub clean-append : (a b : Lines) → are_clean a → are_clean b → are_clean (a ++ b)
clean-append [] b h j = j
clean-append (l ∷ a) b h j = (h.0, clean-append a b h.1 j)

without-append : (b : ℕ) (xs ys : List ℕ) → is_without b xs ≡ true → is_without b ys ≡ true → is_without b (xs ++ ys) ≡ true
without-append b [] ys h j = j
without-append b (x ∷ xs) ys h j =
    let parts = and_parts (not (x == b)) (is_without b xs) h in
    and_from (not (x == b)) (is_without b (xs ++ ys)) parts.0 (without-append b xs ys parts.1 j)

-- words without a line feed are a line without one
clean-words : (w : List ℕ) (ws : List (List ℕ)) → all_without 10 (w ∷ ws) → is_without 10 (line_of (w ∷ ws)) ≡ true
clean-words w ws h = without-append 10 w (flat_map (λ next. 32 ∷ next) ws) h.0 (rest ws h.1)
  where
    rest : (ws : List (List ℕ)) → all_without 10 ws → is_without 10 (flat_map (λ next. 32 ∷ next) ws) ≡ true
    rest [] h = refl
    rest (w ∷ ws) h = without-append 10 (32 ∷ w) (flat_map (λ next. 32 ∷ next) ws) h.0 (rest ws h.1)

clean-line : (ws : List (List ℕ)) → all_without 10 ws → is_without 10 (line_of ws) ≡ true
clean-line [] h = refl
clean-line (w ∷ ws) h = clean-words w ws h

clean-name : (s : MigState) → is_without 10 (state_name s) ≡ true
clean-name Error = refl
clean-name Stop = refl
clean-name Running = refl
clean-name StopCopy = refl
clean-name Resuming = refl
clean-name RunningP2p = refl
clean-name PreCopy = refl
clean-name PreCopyP2p = refl

num : (n : ℕ) → is_without 10 (decimal n) ≡ true
num n = without-decimal 10 n (omega arith)

clean-entry : (e : Entry) → is_without 10 (line_of (entry_words e)) ≡ true
clean-entry (Issue d n) = clean-words (codes "issue") (decimal d ∷ decimal n ∷ []) (refl, (num d, (num n, tt)))
clean-entry (Deliver d n) = clean-words (codes "deliver") (decimal d ∷ decimal n ∷ []) (refl, (num d, (num n, tt)))
clean-entry (Complete d n) = clean-words (codes "complete") (decimal d ∷ decimal n ∷ []) (refl, (num d, (num n, tt)))
clean-entry (Hold d to) = clean-words (codes "hold") (decimal d ∷ state_name to ∷ []) (refl, (num d, (clean-name to, tt)))
clean-entry (Arc d to) = clean-words (codes "arc") (decimal d ∷ state_name to ∷ []) (refl, (num d, (clean-name to, tt)))
clean-entry (Fail d to) = clean-words (codes "fail") (decimal d ∷ state_name to ∷ []) (refl, (num d, (clean-name to, tt)))
clean-entry (Report d) = clean-words (codes "report") (decimal d ∷ []) (refl, (num d, tt))
clean-entry (Pass k) = clean-words (codes "pass") (decimal k ∷ []) (refl, (num k, tt))
clean-entry (Copy p) = clean-words (codes "copy") (decimal p ∷ []) (refl, (num p, tt))
clean-entry (Block d b) = clean-words (codes "block") (decimal d ∷ decimal b ∷ []) (refl, (num d, (num b, tt)))
clean-entry (Dry d) = clean-words (codes "dry") (decimal d ∷ []) (refl, (num d, tt))
clean-entry Begin = refl
clean-entry Joint = refl
clean-entry Abort = refl
clean-entry Resume = refl

clean-journal : (entries : List Entry) → are_clean (journal_lines entries)
clean-journal [] = tt
clean-journal (e ∷ entries) = (clean-entry e, clean-journal entries)

clean-pending : (d : ℕ) (requests : List (ℕ × ℕ)) → are_clean (lines_each (λ r. line_of (pending_words d r)) requests)
clean-pending d [] = tt
clean-pending d (r ∷ requests) = (clean-words (codes "pend") (decimal d ∷ decimal r.0 ∷ decimal r.1 ∷ []) (pending-words-without 10 d r (omega arith)), clean-pending d requests)

clean-bytes : (name : List ℕ) (n size : ℕ) (bytes : List ℕ) → is_without 10 name ≡ true → IsSized size bytes → is_without 10 (line_of (byte_words name n bytes)) ≡ true
clean-bytes name n size bytes clear h = clean-line (byte_words name n bytes) (byte-words-without 10 name n bytes (omega arith) clear h.small)

clean-bars : (d k : ℕ) (sizes bytes : List ℕ) (size : ℕ) → IsSized size bytes → are_clean (bars_lines d k sizes bytes)
clean-bars d k [] bytes all h = tt
clean-bars d k (size ∷ sizes) bytes all h = (
  clean-line (bar_words d k (take size bytes)) (bar-words-without 10 d k (take size bytes) (omega arith) (take-bytes size bytes h.small)),
  clean-bars d (k + 1) sizes (drop size bytes) _ (record { many = refl; small = drop-bytes size bytes h.small }),
)

clean-all-bars : (d : ℕ) (sizes bytes : List ℕ) (size : ℕ) → IsSized size bytes → are_clean (all_bars_lines d sizes bytes)
clean-all-bars d [] bytes all h = tt
clean-all-bars d (size ∷ []) bytes all h = (clean-bytes (codes "bar") d all bytes refl h, tt)
clean-all-bars d (size ∷ next ∷ sizes) bytes all h = clean-bars d 0 (size ∷ next ∷ sizes) bytes all h

clean-device : (D : Desc) (d : ℕ) (dev : DeviceState) → IsClear D d → IsPrintedDevice D d dev → are_clean (device_lines D d dev)
clean-device D d dev clear h = (
  clean-line (counts_words d (shape_at D d).name (dev.accepted, dev.done, dev.lost)) (counts-words-without 10 d (shape_at D d).name (dev.accepted, dev.done, dev.lost) (omega arith) clear.feed),
  (
    clean-bytes (codes "buf") d 64 dev.buf refl h.buf,
    clean-append (all_bars_lines d (shape_at D d).bars dev.bar) _ (clean-all-bars d (shape_at D d).bars dev.bar _ h.bar) (clean-pending d dev.pending),
  ),
)

clean-row : {X : Type 0} (lines : ℕ → X → Lines) (ok : ℕ → X → Type 0) → ((k : ℕ) (x : X) → ok k x → are_clean (lines k x)) → (n k : ℕ) (xs : List X) → EachOf ok n k xs → are_clean (row_text lines k xs)
clean-row lines ok each zero k [] h = tt
clean-row lines ok each zero k (x ∷ xs) h = absurd h
clean-row lines ok each (suc n) k [] h = absurd h
clean-row lines ok each (suc n) k (x ∷ xs) h = clean-append (lines k x) (row_text lines (k + 1) xs) (each k x h.0) (clean-row lines ok each n (k + 1) xs h.1)

clean-state : (D : Desc) → ((d : ℕ) → IsClear D d) → (m : Machine) → IsPrintedState D m → are_clean (state_lines D m)
clean-state D clear m h =
    clean-append (row_text page_lines 0 m.pages) (row_text (device_lines D) 0 m.devices)
    (clean-row page_lines (λ p. IsSized D.page) (λ p bytes j. (clean-bytes (codes "page") p D.page bytes refl j, tt)) D.pages 0 m.pages h.pages)
    (clean-row (device_lines D) (IsPrintedDevice D) (λ d dev j. clean-device D d dev (clear d) j) (device_count D) 0 m.devices h.devices)

clean-titled : {X : Type 0} (title : List ℕ) (lines : X → Lines) (ok : X → Type 0) → is_without 10 title ≡ true → ((x : X) → ok x → are_clean (lines x)) → (o : Option X) → IfThere ok o → are_clean (titled_text title lines o)
clean-titled title lines ok clear each None h = tt
clean-titled title lines ok clear each (Some x) h = (clear, each x h)

pub clean-parts : (D : Desc) → ((d : ℕ) → IsClear D d) → (p : Parts) → ArePrinted D p → are_clean (parts_lines D p)
clean-parts D clear p h =
    let state = clean-state D clear in
    let S = state_lines D in
    let ok = IsPrintedState D in (
      refl,
      clean-append (journal_lines p.1.0) _ (clean-journal p.1.0)
          (clean-append (titled_text (codes "state joint") S p.1.1.0) _ (clean-titled (codes "state joint") S ok refl state p.1.1.0 h.1.1.0)
          (clean-append (titled_text (codes "state loaded") S p.1.1.1.0) _ (clean-titled (codes "state loaded") S ok refl state p.1.1.1.0 h.1.1.1.0)
          (clean-append (titled_text (codes "journal destination") journal_lines p.1.1.1.1.0) _ (clean-titled (codes "journal destination") journal_lines (IsPrintedJournal D) refl (λ entries j. clean-journal entries) p.1.1.1.1.0 h.1.1.1.1.0)
          (clean-append (titled_text (codes "state final") S p.1.1.1.1.1.0) _ (clean-titled (codes "state final") S ok refl state p.1.1.1.1.1.0 h.1.1.1.1.1.0) (refl, tt))))),
    )
