-- A whole report is read exactly, and its first bad line found.
use Rattle.std.proofs.Common.{◌≡◌, ℕ, zero, suc, ◌+◌, ◌-◌, ◌≤◌, ◌^◌, List, [], ◌∷◌, ◌++◌, length, take, Some, None, true, false, refl, ap, sym, subst, ◌∙◌, arith, append_assoc, append-nil, length-append, inl, inr, drop, ◌<◌}
use Rattle.std.specs.Prelude.{◌⊎◌, codes}
use Rattle.std.specs.Prelude.{◌==◌, not, ◌&&◌, nat_le}
use Rattle.std.specs.List.{list_all}
use Rattle.std.proofs.lemmas.List.{get_or_past, take-append-drop}
use Rattle.vfm_types.specs.Bytes.{is_name_byte}
use Rattle.vfm_types.specs.declared.desc.DevShape.{DevShape}
use Rattle.vfm_types.specs.Desc.{device_count, shape_at, no_shape}
use Rattle.vfm_types.specs.Valid.{IsValid, ShapeInRange}
use Rattle.vfm_report.proofs.Blanks.{without-name}
use Rattle.std.proofs.lemmas.Bool.{and_from, and_parts, not_from_false, cond_both, cases_lt}
use Rattle.vfm_types.specs.declared.desc.Desc.{Desc}
use Rattle.vfm_plain.specs.Report.{Made, report_text}
use Rattle.vfm_report.specs.Split.{is_without, split, before_pieces}
use Rattle.vfm_report.specs.LineList.{but_last, whole_lines, after_lines, unlined}
use Rattle.vfm_report.specs.Found.{Found, Read, Bad, found_map, one_line}
use Rattle.vfm_report.specs.Readers.{Parts, made_from, status_in, parts_reader, whole_reader}
use Rattle.vfm_report.specs.Printed.{IsPrinted, IfThere, IsPrintedState, IsPrintedJournal}
use Rattle.vfm_report.specs.Reports.{IsReport, BeginsReport, first_lines, IsBadLine}
use Rattle.vfm_report.proofs.LineLists.{are_clean, lines-together, whole_lines-first, whole_lines-unlined, after_lines-unlined}
use Rattle.vfm_report.proofs.LineKinds.{IsStatus, status-exact}
use Rattle.vfm_report.proofs.Exact.{Exact, any_line, stands-any, same_value, same_rest, same_bad, one-exact, turn-exact}
use Rattle.vfm_report.proofs.ExactParts.{IsClear, parts_lines, ArePrinted, parts-exact}
use Rattle.vfm_report.proofs.Bytes.{unlined-append, parts-together, clean-parts}

abbrev Lines : Type 0
Lines = List (List ℕ)

-- the lines of a status line and the parts
abbrev pub whole_text : Desc → List ℕ × Parts → Lines
whole_text D p = p.0 ∷ [] ++ parts_lines D p.1

abbrev pub IsWhole : Desc → List ℕ × Parts → Type 0
IsWhole D p = IsStatus D p.0 × ArePrinted D p.1

moved-status : (D : Desc) → IsStatus D (codes "status moved")
unfolding split
moved-status D = record { feed = refl; is = refl }

pub whole-exact : (D : Desc) → ((d : ℕ) → IsClear D d) → Exact (whole_text D) (IsWhole D) any_line (whole_reader D)
whole-exact D clear =
    turn-exact (λ l. l ∷ []) (IsStatus D) any_line (one_line (status_in D)) (parts_lines D) (ArePrinted D) any_line (parts_reader D) any_line
    (tt, ([], (None, (None, (None, (None, tt)))))) (tt, (tt, (tt, (tt, (tt, (tt, tt))))))
    (one-exact (λ l. l) (IsStatus D) (status_in D) (codes "status moved") (moved-status D) (status-exact D)) (parts-exact D clear)
    (λ y rest h s. (s, stands-any (parts_lines D y ++ rest)))

-- ---- reports and their lines

-- what a run made, as the parts that a report has
abbrev parts_made : Made → Parts
parts_made made = (tt, (made.source, (made.joint, (made.loaded, (made.destination, (made.final, tt))))))

printed-parts : (D : Desc) (made : Made) → made.desc ≡ D → IsPrinted made → ArePrinted D (parts_made made)
printed-parts D made same h = (
  tt,
  (
    subst (λ (E : Desc). IsPrintedJournal E made.source) same h.source,
    (
      subst (λ (E : Desc). IfThere (IsPrintedState E) made.joint) same h.joint,
      (
        subst (λ (E : Desc). IfThere (IsPrintedState E) made.loaded) same h.loaded,
        (subst (λ (E : Desc). IfThere (IsPrintedJournal E) made.destination) same h.destination, (subst (λ (E : Desc). IfThere (IsPrintedState E) made.final) same h.final, tt)),
      ),
    ),
  ),
)

made-same : (D : Desc) (made : Made) → made.desc ≡ D → made_from D (parts_made made) ≡ made
made-same D made same = λ i. record { desc = sym same i; source = made.source; joint = made.joint; loaded = made.loaded; destination = made.destination; final = made.final }

text-lines : (D : Desc) (status : List ℕ) (p : Parts) → report_text (status ++ 10 ∷ []) (Some (made_from D p)) ≡ unlined (whole_text D (status, p))
text-lines D status p = ap (λ (r : List ℕ). (status ++ 10 ∷ []) ++ r) (parts-together D p)

clean-whole : (D : Desc) → ((d : ℕ) → IsClear D d) → (p : List ℕ × Parts) → IsWhole D p → are_clean (whole_text D p)
clean-whole D clear p h = (h.0.feed, clean-parts D clear p.1 h.1)

-- such lines are a report
pub report-from : (D : Desc) (p : List ℕ × Parts) → IsWhole D p → IsReport D (unlined (whole_text D p)) (made_from D p.1)
report-from D p h = (
  p.0,
  record {
    one_line = h.0.feed;
    known = h.0.is;
    described = refl;
    printed = record { source = h.1.1.0; joint = h.1.1.1.0; loaded = h.1.1.1.1.0; destination = h.1.1.1.1.1.0; final = h.1.1.1.1.1.1.0 };
    text = sym (text-lines D p.0 p.1);
  },
)

-- a report's lines, and the value that they have
report-lines : (D : Desc) (bytes : List ℕ) (made : Made) → IsReport D bytes made → (p : List ℕ × Parts) × IsWhole D p × (bytes ≡ unlined (whole_text D p)) × (made_from D p.1 ≡ made)
report-lines D bytes made r =
    let h = r.1 in
    let back = made-same D made h.described in (
      (r.0, parts_made made),
      (record { feed = h.one_line; is = h.known }, printed-parts D made h.described h.printed),
      h.text ∙ ap (λ (m : Made). report_text (r.0 ++ 10 ∷ []) (Some m)) (sym back) ∙ text-lines D r.0 (parts_made made),
      back,
    )

-- a report is read as what it has
pub report-read : (D : Desc) → ((d : ℕ) → IsClear D d) → (bytes : List ℕ) (made : Made) → IsReport D bytes made
    → (p : List ℕ × Parts) × (whole_reader D (whole_lines bytes) ≡ Read p []) × (after_lines bytes ≡ []) × (made_from D p.1 ≡ made)
report-read D clear bytes made r =
    let q = report-lines D bytes made r in
    let clean = clean-whole D clear q.0 q.1 in
    let text : bytes ≡ unlined (whole_text D q.0) ++ [] = q.2 ∙ sym (append-nil (unlined (whole_text D q.0))) in
    let lines : whole_lines bytes ≡ whole_text D q.0 ++ [] = ap whole_lines text ∙ whole_lines-unlined (whole_text D q.0) [] clean refl ∙ sym (append-nil (whole_text D q.0)) in (
      q.0,
      ap (whole_reader D) lines ∙ (whole-exact D clear).own q.0 [] q.1 refl,
      ap after_lines text ∙ after_lines-unlined (whole_text D q.0) [] clean refl,
      q.3,
    )

-- bytes have one report at most
pub one-report : (D : Desc) → ((d : ℕ) → IsClear D d) → (bytes : List ℕ) (a b : Made) → IsReport D bytes a → IsReport D bytes b → a ≡ b
one-report D clear bytes a b one two =
    let p = report-read D clear bytes a one in
    let q = report-read D clear bytes b two in
    let same = same_value p.0 q.0 [] [] (sym p.1 ∙ q.1) in
    sym p.3 ∙ (λ i. made_from D (same i).1) ∙ q.3

-- what is read to the end of the bytes is a report
pub read-report : (D : Desc) → ((d : ℕ) → IsClear D d) → (bytes : List ℕ) (p : List ℕ × Parts) → whole_reader D (whole_lines bytes) ≡ Read p [] → after_lines bytes ≡ [] → IsReport D bytes (made_from D p.1)
read-report D clear bytes p read none =
    let s = (whole-exact D clear).sound (whole_lines bytes) [] p read in
    let text : bytes ≡ unlined (whole_text D p) =
    lines-together bytes ∙ (λ i. unlined (s.1 i) ++ none i) ∙ append-nil (unlined (whole_text D p ++ [])) ∙ ap unlined (append-nil (whole_text D p)) in
    subst (λ (b : List ℕ). IsReport D b (made_from D p.1)) (sym text) (report-from D p s.0)

-- lines that begin the lines of a report
begins-from : (D : Desc) (good more : Lines) (p : List ℕ × Parts) → IsWhole D p → whole_text D p ≡ good ++ more → BeginsReport D (unlined good)
begins-from D good more p h is =
    (unlined more, made_from D p.1, subst (λ (b : List ℕ). IsReport D b (made_from D p.1)) (ap unlined is ∙ unlined-append good more) (report-from D p h))

take-good : (good rest : Lines) → take (length good) (good ++ rest) ≡ good
take-good [] [] = refl
take-good [] (l ∷ rest) = refl
take-good (g ∷ good) rest = ap (λ (r : Lines). g ∷ r) (take-good good rest)

-- the lines of any bytes are clean
clean-before : (x : ℕ) (ps : Lines) → (x == 10) ≡ false → are_clean ps → are_clean (before_pieces x ps)
clean-before x [] h c = (and_from (not (x == 10)) true (not_from_false (x == 10) h) refl, tt)
clean-before x (p ∷ ps) h c = (and_from (not (x == 10)) (is_without 10 p) (not_from_false (x == 10) h) c.0, c.1)

pieces-clean : (bytes : List ℕ) → are_clean (split 10 bytes)
unfolding split
pieces-clean [] = (refl, tt)
pieces-clean (x ∷ bytes) =
    cond_both (x == 10) ([] ∷ split 10 bytes) (before_pieces x (split 10 bytes)) are_clean (λ here. (refl, pieces-clean bytes)) (λ other. clean-before x (split 10 bytes) other (pieces-clean bytes))

but_last-clean : (ps : Lines) → are_clean ps → are_clean (but_last ps)
but_last-clean [] c = tt
but_last-clean (p ∷ []) c = tt
but_last-clean (p ∷ q ∷ ps) c = (c.0, but_last-clean (q ∷ ps) c.1)

lines-clean : (bytes : List ℕ) → are_clean (whole_lines bytes)
lines-clean bytes = but_last-clean (split 10 bytes) (pieces-clean bytes)

clean-front : (a b : Lines) → are_clean (a ++ b) → are_clean a
clean-front [] b c = tt
clean-front (l ∷ a) b c = (c.0, clean-front a b c.1)

-- the lines of bytes that begin with these lines
lines-after : (first : Lines) (rest : List ℕ) → are_clean first → whole_lines (unlined first ++ rest) ≡ first ++ whole_lines rest
lines-after [] rest c = refl
lines-after (l ∷ first) rest c =
    whole_lines-first ((l ++ 10 ∷ [] ++ unlined first) ++ rest) l (unlined first ++ rest) c.0 (append_assoc (l ++ 10 ∷ []) (unlined first) rest ∙ append_assoc l (10 ∷ []) (unlined first ++ rest))
    ∙ ap (λ (ls : Lines). l ∷ ls) (lines-after first rest c.1)

-- The line after the good ones is the first bad one, where they begin a report, no report begins with it too, and the
-- bytes are none.
bad-line : (D : Desc) (bytes : List ℕ) (good rest : Lines) → whole_lines bytes ≡ good ++ rest → BeginsReport D (unlined good)
    → ((l : List ℕ) (after : Lines) → rest ≡ l ∷ after → BeginsReport D (unlined (good ++ l ∷ [])) → ⊥) → ((made : Made) → IsReport D bytes made → ⊥) → IsBadLine D bytes (length good + 1)
bad-line D bytes good rest is begins bad none =
    let counted = length-append good rest in
    let all : length (whole_lines bytes) ≡ length good + length rest = ap length is ∙ counted in
    record {
      from_one = omega arith;
      within = omega (arith, all);
      begins =
          let k : length good + 1 - 1 ≡ length good = omega arith in
          subst (λ (b : List ℕ). BeginsReport D b) (sym (ap (λ (n : ℕ). first_lines n bytes) k ∙ ap (λ (ls : Lines). unlined (take (length good) ls)) is ∙ ap unlined (take-good good rest))) begins;
      bad = by rest is bad all;
      none = none;
    }
  where
    by : (rest : Lines) → whole_lines bytes ≡ good ++ rest → ((l : List ℕ) (after : Lines) → rest ≡ l ∷ after → BeginsReport D (unlined (good ++ l ∷ [])) → ⊥) → length (whole_lines bytes) ≡ length good + length rest
        → (length good + 1 ≡ length (whole_lines bytes) + 1) ⊎ (BeginsReport D (first_lines (length good + 1) bytes) → ⊥)
    by [] is bad all = inl (omega (arith, all))
    by (l ∷ after) is bad all =
        inr (λ more. bad l after refl (subst (λ (b : List ℕ). BeginsReport D b) (first l after is) more))
      where
        next : (l : List ℕ) (after : Lines) → take (length good + 1) (good ++ l ∷ after) ≡ good ++ l ∷ []
        next l after =
            let size : length (good ++ l ∷ []) ≡ length good + 1 = length-append good (l ∷ []) in
            (λ i. take (sym size i) (sym (append_assoc good (l ∷ []) after) i)) ∙ take-good (good ++ l ∷ []) after

        first : (l : List ℕ) (after : Lines) → whole_lines bytes ≡ good ++ l ∷ after → first_lines (length good + 1) bytes ≡ unlined (good ++ l ∷ [])
        first l after is = ap (λ (ls : Lines). unlined (take (length good + 1) ls)) is ∙ ap unlined (next l after)

clean-good : (bytes : List ℕ) (good : Lines) (l : List ℕ) (after : Lines) → whole_lines bytes ≡ good ++ l ∷ after → are_clean (good ++ l ∷ [])
clean-good bytes good l after is = clean-front (good ++ l ∷ []) after (subst are_clean (is ∙ sym (append_assoc good (l ∷ []) after)) (lines-clean bytes))

-- a line at which reading stops
pub stopped-at : (D : Desc) → ((d : ℕ) → IsClear D d) → (bytes : List ℕ) (rest : Lines) → whole_reader D (whole_lines bytes) ≡ Bad rest → IsBadLine D bytes (length (whole_lines bytes) - length rest + 1)
stopped-at D clear bytes rest h =
    let b = (whole-exact D clear).bad (whole_lines bytes) rest h in
    let good = b.0 in
    let size : length (whole_lines bytes) - length rest ≡ length good = omega (arith, ap length b.1 ∙ length-append good rest) in
    subst (IsBadLine D bytes) (ap (λ (n : ℕ). n + 1) (sym size)) (bad-line D bytes good rest b.1 (begins-from D good b.2.2.0 b.2.0 b.2.1 b.2.2.1)
    (λ l after is more.
    let clean = clean-good bytes good l after (b.1 ∙ ap (λ (r : Lines). good ++ r) is) in
    let r = report-read D clear (unlined (good ++ l ∷ []) ++ more.0) more.1 more.2 in
    let lines = lines-after (good ++ l ∷ []) more.0 clean ∙ append_assoc good (l ∷ []) (whole_lines more.0) in
    read_or_bad r.0 [] (l ∷ whole_lines more.0) (sym r.1 ∙ ap (whole_reader D) lines ∙ b.3 l after (whole_lines more.0) is))
    (λ made is. let r = report-read D clear bytes made is in read_or_bad r.0 [] rest (sym r.1 ∙ h)))
  where
    read_or_bad : {X : Type 0} (x : X) (r s : Lines) → Read x r ≡ Bad s → ⊥
    read_or_bad x r s h = cc h

-- the line after the last, where something is left
pub left-at : (D : Desc) → ((d : ℕ) → IsClear D d) → (bytes : List ℕ) (p : List ℕ × Parts) (rest : Lines) → whole_reader D (whole_lines bytes) ≡ Read p rest → (rest ≡ [] → after_lines bytes ≡ [] → ⊥)
    → IsBadLine D bytes (length (whole_lines bytes) - length rest + 1)
left-at D clear bytes p rest h left =
    let exact = whole-exact D clear in
    let s = exact.sound (whole_lines bytes) rest p h in
    let good = whole_text D p in
    let size : length (whole_lines bytes) - length rest ≡ length good = omega (arith, ap length s.1 ∙ length-append good rest) in
    subst (IsBadLine D bytes) (ap (λ (n : ℕ). n + 1) (sym size)) (bad-line D bytes good rest s.1 (begins-from D good [] p s.0 (sym (append-nil good)))
    (λ l after is more.
    let clean = clean-good bytes good l after (s.1 ∙ ap (λ (r : Lines). good ++ r) is) in
    let r = report-read D clear (unlined (good ++ l ∷ []) ++ more.0) more.1 more.2 in
    let lines = lines-after (good ++ l ∷ []) more.0 clean ∙ append_assoc good (l ∷ []) (whole_lines more.0) in
    let over = exact.keeps (whole_lines bytes) rest p h [] l after (whole_lines more.0) is in
    let none : [] ≡ l ∷ whole_lines more.0 = same_rest r.0 p [] (l ∷ whole_lines more.0) (sym r.1 ∙ ap (whole_reader D) lines ∙ over) in
    cc none)
    (λ made is. let r = report-read D clear bytes made is in left (sym (same_rest r.0 p [] rest (sym r.1 ∙ h))) r.2))

-- ---- what a call that reads answers

-- names and jobs of a valid description
clear-at : (shape : DevShape) → ShapeInRange shape → (is_without 32 shape.name ≡ true) × (is_without 10 shape.name ≡ true) × (length shape.jobs ≤ 2 ^ 32)
clear-at shape h =
    let name = (and_parts (nat_le 1 (length shape.name) && nat_le (length shape.name) 16) (list_all is_name_byte shape.name) h.name).1 in
    (without-name 32 shape.name (omega arith) name, without-name 10 shape.name (omega arith) name, omega (arith, h.job_count))

pub clear : (D : Desc) → IsValid D → (d : ℕ) → IsClear D d
clear D valid d =
    elim (cases_lt d (device_count D)) [
      | inl there ↦ let c = clear-at (shape_at D d) (valid.in_range.devices d there) in record { blank = c.0; feed = c.1; jobs = c.2 }
      | inr past ↦
          let none : shape_at D d ≡ no_shape = get_or_past D.devices d no_shape past in
          record { blank = rw none refl; feed = rw none refl; jobs = rw none (omega arith) }
    ]

found-value : (o : Found (List ℕ × Parts)) (parts : Parts) (rest : Lines) → found_map (λ p. p.1) o ≡ Read parts rest → (p : List ℕ × Parts) × (o ≡ Read p rest) × (p.1 ≡ parts)
found-value (Read p r) parts rest h = (p, (λ i. Read p (same_rest p.1 parts r rest h i)), same_value p.1 parts r rest h)
found-value (Bad r) parts rest h = absurd cc

found-bad : (o : Found (List ℕ × Parts)) (rest : Lines) → found_map {Y = Parts} (λ p. p.1) o ≡ Bad rest → o ≡ Bad rest
found-bad (Read p r) rest h = absurd cc
found-bad (Bad r) rest h = ap Bad (same_bad {X = Parts} r rest h)

pub answer-ok : (D : Desc) → IsValid D → (bytes : List ℕ) (parts : Parts) (rest : Lines) → found_map (λ p. p.1) (whole_reader D (whole_lines bytes)) ≡ Read parts rest → rest ≡ [] → after_lines bytes ≡ [] → IsReport D bytes (made_from D parts)
answer-ok D valid bytes parts rest h none tail =
    let p = found-value (whole_reader D (whole_lines bytes)) parts rest h in
    subst (λ (q : Parts). IsReport D bytes (made_from D q)) p.2 (read-report D (clear D valid) bytes p.0 (p.1 ∙ ap (λ (r : Lines). Read p.0 r) none) tail)

pub answer-left : (D : Desc) → IsValid D → (bytes : List ℕ) (parts : Parts) (rest : Lines) → found_map (λ p. p.1) (whole_reader D (whole_lines bytes)) ≡ Read parts rest → (rest ≡ [] → after_lines bytes ≡ [] → ⊥)
    → IsBadLine D bytes (length (whole_lines bytes) - length rest + 1)
answer-left D valid bytes parts rest h left =
    let p = found-value (whole_reader D (whole_lines bytes)) parts rest h in
    left-at D (clear D valid) bytes p.0 rest p.1 left

pub answer-bad : (D : Desc) → IsValid D → (bytes : List ℕ) (rest : Lines) → found_map {Y = Parts} (λ p. p.1) (whole_reader D (whole_lines bytes)) ≡ Bad rest → IsBadLine D bytes (length (whole_lines bytes) - length rest + 1)
answer-bad D valid bytes rest h = stopped-at D (clear D valid) bytes rest (found-bad (whole_reader D (whole_lines bytes)) rest h)

-- ---- how many lines there are

split-few : (b : ℕ) (xs : List ℕ) → length (split b xs) ≤ length xs + 1
unfolding split
split-few b [] = omega arith
split-few b (x ∷ xs) = cond_both (x == b) ([] ∷ split b xs) (before_pieces x (split b xs)) (λ ps. length ps ≤ length (x ∷ xs) + 1) (λ here. omega (arith, split-few b xs)) (λ other. by (split b xs) (split-few b xs))
  where
    by : (ps : Lines) → length ps ≤ length xs + 1 → length (before_pieces x ps) ≤ length (x ∷ xs) + 1
    by [] h = omega arith
    by (p ∷ ps) h = omega arith

but_last-few : (ps : Lines) (n : ℕ) → length ps ≤ n + 1 → length (but_last ps) ≤ n
but_last-few [] n h = omega arith
but_last-few (p ∷ []) n h = omega arith
but_last-few (p ∷ q ∷ ps) zero h = absurd (omega arith)
but_last-few (p ∷ q ∷ ps) (suc n) h = omega (arith, but_last-few (q ∷ ps) n (omega arith))

-- no more lines than bytes
pub few-lines : (bytes : List ℕ) → length (whole_lines bytes) ≤ length bytes
few-lines bytes = but_last-few (split 10 bytes) (length bytes) (split-few 10 bytes)

-- no more lines are left than there were
pub left-few : (D : Desc) → IsValid D → (bytes : List ℕ) (parts : Parts) (rest : Lines) → found_map (λ p. p.1) (whole_reader D (whole_lines bytes)) ≡ Read parts rest → length rest ≤ length (whole_lines bytes)
left-few D valid bytes parts rest h =
    let p = found-value (whole_reader D (whole_lines bytes)) parts rest h in
    let s = (whole-exact D (clear D valid)).sound (whole_lines bytes) rest p.0 p.1 in
    omega (arith, ap length s.1 ∙ length-append (whole_text D p.0) rest)

pub bad-few : (D : Desc) → IsValid D → (bytes : List ℕ) (rest : Lines) → found_map {Y = Parts} (λ p. p.1) (whole_reader D (whole_lines bytes)) ≡ Bad rest → length rest ≤ length (whole_lines bytes)
bad-few D valid bytes rest h =
    let b = (whole-exact D (clear D valid)).bad (whole_lines bytes) rest (found-bad (whole_reader D (whole_lines bytes)) rest h) in
    omega (arith, ap length b.1 ∙ length-append b.0 rest)

-- ---- one bad line

take-twice : (j m : ℕ) (lines : Lines) → j ≤ m → take j (take m lines) ≡ take j lines
take-twice zero m lines h = refl
take-twice (suc j) zero lines h = absurd (omega arith)
take-twice (suc j) (suc m) [] h = refl
take-twice (suc j) (suc m) (l ∷ lines) h = ap (λ (r : Lines). l ∷ r) (take-twice j m lines (omega arith))

fewer-begin : (D : Desc) (bytes : List ℕ) (j m : ℕ) → j ≤ m → BeginsReport D (first_lines m bytes) → BeginsReport D (first_lines j bytes)
fewer-begin D bytes j m less b =
    let L = whole_lines bytes in
    let more = drop j (take m L) in
    let lines : take m L ≡ take j L ++ more = sym (take-append-drop j (take m L)) ∙ ap (λ (r : Lines). r ++ more) (take-twice j m L less) in
    let text : unlined (take m L) ++ b.0 ≡ unlined (take j L) ++ (unlined more ++ b.0) =
    ap (λ (r : List ℕ). r ++ b.0) (ap unlined lines ∙ unlined-append (take j L) more) ∙ append_assoc (unlined (take j L)) (unlined more) b.0 in
    (unlined more ++ b.0, b.1, subst (λ (t : List ℕ). IsReport D t b.1) text b.2)

not-earlier : (D : Desc) (bytes : List ℕ) (j k : ℕ) → IsBadLine D bytes j → IsBadLine D bytes k → j < k → ⊥
not-earlier D bytes j k one other less =
    elim one.bad [
      | inl last ↦ omega (arith, last, other.within, less)
      | inr no_report ↦ no_report (fewer-begin D bytes j (k - 1) (omega (arith, less)) other.begins)
    ]

pub one-bad-line : (D : Desc) (bytes : List ℕ) (j k : ℕ) → IsBadLine D bytes j → IsBadLine D bytes k → j ≡ k
one-bad-line D bytes j k one other =
    elim (cases_lt j k) [
      | inl less ↦ absurd (not-earlier D bytes j k one other less)
      | inr not_less ↦
          elim (cases_lt k j) [
            | inl more ↦ absurd (not-earlier D bytes k j other one more)
            | inr not_more ↦ omega (arith, not_less, not_more)
          ]
    ]
