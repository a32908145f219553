-- What it is that a reader reads exactly the texts of some values, and how such readers are put together.
use Rattle.std.proofs.Common.{◌≡◌, ℕ, zero, suc, ◌+◌, List, [], ◌∷◌, ◌++◌, Option, Some, None, true, false, Bool, refl, ap, sym, subst, ◌∙◌, cond, append_assoc, inl, inr, ◌⊎◌}
use Rattle.std.specs.Prelude.{not, ◌&&◌, is_none}
use Rattle.std.proofs.lemmas.Bool.{and_parts, true≢false, not-true}
use Rattle.vfm_report.specs.Same.{same_text}
use Rattle.vfm_report.specs.Printed.{Each, EachOf, IfThere}
use Rattle.vfm_report.specs.Found.{Found, Read, Bad, Reader, ◌>>=◌, found_map, found_or, one_line, then_more, many_lines, in_turn, row, titled}
use Rattle.vfm_report.proofs.Texts.{same_text-refl, same_text-eq}

abbrev Lines : Type 0
Lines = List (List ℕ)

-- the line after may stand there: there is none, or it passes the test
abbrev pub stands : (List ℕ → Bool) → Lines → Bool
stands stop [] = true
stands stop (l ∷ lines) = stop l

-- these lines begin the text of a value
abbrev pub Begins : {X : Type 0} → (X → Lines) → (X → Type 0) → Lines → Type 0
Begins {X} text ok good = (x : X) × ok x × ((more : Lines) × (text x ≡ good ++ more))

-- the lines from a bad one on: those before it begin a text, and whatever stands after it, the line is bad
abbrev pub BadAt : {X : Type 0} → (X → Lines) → (X → Type 0) → Reader X → Lines → Lines → Type 0
BadAt text ok read lines rest =
    (good : Lines) × (lines ≡ good ++ rest) × Begins text ok good
    × ((l : List ℕ) (after other : Lines) → rest ≡ l ∷ after → read (good ++ l ∷ other) ≡ Bad (l ∷ other))

-- The reader reads the text of each value, where the line after it may stand there, and nothing else; no line counts
-- but those of the text and the one after it. Where it finds a bad line, those before it begin a text, and whatever
-- stands after it, the line is bad.
pub record Exact {X : Type 0} (text : X → Lines) (ok : X → Type 0) (stop : List ℕ → Bool) (read : Reader X) : Type 0 where
  pub sound : (lines rest : Lines) (x : X) → read lines ≡ Read x rest → ok x × (lines ≡ text x ++ rest)
  pub keeps : (lines rest : Lines) (x : X) → read lines ≡ Read x rest → (good : Lines) (l : List ℕ) (after other : Lines) → rest ≡ good ++ l ∷ after
      → read (text x ++ (good ++ l ∷ other)) ≡ Read x (good ++ l ∷ other)
  pub own : (x : X) (rest : Lines) → ok x → stands stop rest ≡ true → read (text x ++ rest) ≡ Read x rest
  pub bad : (lines rest : Lines) → read lines ≡ Bad rest → BadAt text ok read lines rest

-- the value and the lines that were found
abbrev found_value : {X : Type 0} → X → Found X → X
found_value d (Read x rest) = x
found_value d (Bad rest) = d

abbrev found_rest : {X : Type 0} → Found X → Lines
found_rest (Read x rest) = rest
found_rest (Bad rest) = rest

pub same_value : {X : Type 0} (x y : X) (r s : Lines) → Read x r ≡ Read y s → x ≡ y
same_value x y r s h = ap (found_value x) h

pub same_rest : {X : Type 0} (x y : X) (r s : Lines) → Read x r ≡ Read y s → r ≡ s
same_rest x y r s h = ap found_rest h

pub same_bad : {X : Type 0} (r s : Lines) → ◌≡◌ {A = Found X} (Bad r) (Bad s) → r ≡ s
same_bad r s h = ap found_rest h

-- a kind of line: which value it has
pub record ExactLine {X : Type 0} (text : X → List ℕ) (ok : X → Type 0) (of_line : List ℕ → Option X) : Type 0 where
  pub sound : (l : List ℕ) (x : X) → of_line l ≡ Some x → ok x × (l ≡ text x)
  pub own : (x : X) → ok x → of_line (text x) ≡ Some x

abbrev pub any_line : List ℕ → Bool
any_line l = true

pub stands-any : (lines : Lines) → stands any_line lines ≡ true
stands-any [] = refl
stands-any (l ∷ lines) = refl

-- the first lines of a list
pub same_head : (l m : List ℕ) (ls ms : Lines) → l ∷ ls ≡ m ∷ ms → l ≡ m
same_head l m ls ms h = ap (λ (q : Lines). elim q as (λ _. List ℕ) [ [] ↦ l | x ∷ xs ↦ x ]) h

pub same_tail : (l m : List ℕ) (ls ms : Lines) → l ∷ ls ≡ m ∷ ms → ls ≡ ms
same_tail l m ls ms h = ap (λ (q : Lines). elim q as (λ _. Lines) [ [] ↦ ls | x ∷ xs ↦ xs ]) h

-- ---- one line

pub one-exact : {X : Type 0} (text : X → List ℕ) (ok : X → Type 0) (of_line : List ℕ → Option X) (x₀ : X) → ok x₀ → ExactLine text ok of_line
    → Exact (λ x. text x ∷ []) ok any_line (one_line of_line)
one-exact {X} text ok of_line x₀ ok₀ kind = record { sound = sound; keeps = keeps; own = own; bad = bad }
  where
    by-sound : (l : List ℕ) (o : Option X) (after rest : Lines) (x : X) → of_line l ≡ o → found_or o (l ∷ after) after ≡ Read x rest → ok x × (l ∷ after ≡ text x ∷ rest)
    by-sound l (Some y) after rest x is h =
        let p = kind.sound l y is in
        let same = same_value y x after rest h in
        (subst ok same p.0, (λ i. (p.1 ∙ ap text same) i ∷ same_rest y x after rest h i))
    by-sound l None after rest x is h = absurd cc

    sound : (lines rest : Lines) (x : X) → one_line of_line lines ≡ Read x rest → ok x × (lines ≡ text x ∷ [] ++ rest)
    sound [] rest x h = absurd cc
    sound (l ∷ after) rest x h = by-sound l (of_line l) after rest x refl h

    own : (x : X) (rest : Lines) → ok x → stands any_line rest ≡ true → one_line of_line (text x ∷ [] ++ rest) ≡ Read x rest
    own x rest h s = rw (kind.own x h) refl

    keeps : (lines rest : Lines) (x : X) → one_line of_line lines ≡ Read x rest → (good : Lines) (l : List ℕ) (after other : Lines) → rest ≡ good ++ l ∷ after
        → one_line of_line (text x ∷ [] ++ (good ++ l ∷ other)) ≡ Read x (good ++ l ∷ other)
    keeps lines rest x h good l after other is = own x (good ++ l ∷ other) (sound lines rest x h).0 (stands-any (good ++ l ∷ other))

    by-bad : (l : List ℕ) (o : Option X) (after rest : Lines) → of_line l ≡ o → found_or o (l ∷ after) after ≡ Bad rest → (l ∷ after ≡ rest) × (of_line l ≡ None)
    by-bad l (Some y) after rest is h = absurd cc
    by-bad l None after rest is h = (same_bad (l ∷ after) rest h, is)

    begins : Begins (λ x. text x ∷ []) ok []
    begins = (x₀, ok₀, (text x₀ ∷ [], refl))

    bad : (lines rest : Lines) → one_line of_line lines ≡ Bad rest → BadAt (λ x. text x ∷ []) ok (one_line of_line) lines rest
    bad [] rest h = ([], same_bad [] rest h, begins, λ l after other is. absurd (let e = same_bad [] rest h ∙ is in cc e))
    bad (m ∷ lines) rest h =
        let p = by-bad m (of_line m) lines rest refl h in
        ([], p.0, begins, λ l after other is. let same = same_head m l lines after (p.0 ∙ is) in rw (← same, p.1) refl)

-- ---- one after the other

abbrev turn : {X Y : Type 0} → Found X → Reader Y → Found (X × Y)
turn o second = o >>= (λ x r. found_map (λ y. (x, y)) (second r))

-- what a found pair was made of
turn-read : {X Y : Type 0} (o : Found X) (second : Reader Y) (p : X × Y) (rest : Lines) → turn o second ≡ Read p rest
    → (s : Lines) × (o ≡ Read p.0 s) × (second s ≡ Read p.1 rest)
turn-read (Bad r) second p rest h = absurd cc
turn-read {X} {Y} (Read x r) second p rest h = by (second r) refl h
  where
    by : (q : Found Y) → second r ≡ q → found_map {Y = X × Y} (λ y. (x, y)) q ≡ Read p rest → (s : Lines) × (Read x r ≡ Read p.0 s) × (second s ≡ Read p.1 rest)
    by (Bad s) is h = absurd cc
    by (Read y s) is h =
        let same = same_value (x, y) p s rest h in
        (r, (λ i. Read (same i).0 r), is ∙ (λ i. Read (same i).1 (same_rest (x, y) p s rest h i)))

-- what a bad pair was made of
turn-bad : {X Y : Type 0} (o : Found X) (second : Reader Y) (rest : Lines) → turn o second ≡ Bad rest
    → (o ≡ Bad rest) ⊎ ((x : X) × (s : Lines) × (o ≡ Read x s) × (second s ≡ Bad rest))
turn-bad (Bad r) second rest h = inl (ap Bad (same_bad r rest h))
turn-bad {X} {Y} (Read x r) second rest h = by (second r) refl h
  where
    by : (q : Found Y) → second r ≡ q → found_map {Y = X × Y} (λ y. (x, y)) q ≡ Bad rest → (Read x r ≡ Bad rest) ⊎ ((z : X) × (s : Lines) × (Read x r ≡ Read z s) × (second s ≡ Bad rest))
    by (Bad s) is h = inr (x, r, refl, is ∙ ap Bad (same_bad s rest h))
    by (Read y s) is h = absurd cc

-- a text, then another
pub turn-exact : {X Y : Type 0} (text₁ : X → Lines) (ok₁ : X → Type 0) (stop₁ : List ℕ → Bool) (first : Reader X) (text₂ : Y → Lines) (ok₂ : Y → Type 0) (stop₂ : List ℕ → Bool) (second : Reader Y)
    (stop : List ℕ → Bool) (y₀ : Y) → ok₂ y₀ → Exact text₁ ok₁ stop₁ first → Exact text₂ ok₂ stop₂ second
    → ((y : Y) (rest : Lines) → ok₂ y → stands stop rest ≡ true → (stands stop₂ rest ≡ true) × (stands stop₁ (text₂ y ++ rest) ≡ true))
    → Exact {X = X × Y} (λ p. text₁ p.0 ++ text₂ p.1) (λ p. ok₁ p.0 × ok₂ p.1) stop (in_turn first second)
turn-exact {X} {Y} text₁ ok₁ stop₁ first text₂ ok₂ stop₂ second stop y₀ ok₀ one two down = record { sound = sound; keeps = keeps; own = own; bad = bad }
  where
    sound : (lines rest : Lines) (p : X × Y) → in_turn first second lines ≡ Read p rest → (ok₁ p.0 × ok₂ p.1) × (lines ≡ (text₁ p.0 ++ text₂ p.1) ++ rest)
    sound lines rest p h =
        let parts = turn-read (first lines) second p rest h in
        let a = one.sound lines parts.0 p.0 parts.1 in
        let b = two.sound parts.0 rest p.1 parts.2 in
        ((a.0, b.0), a.1 ∙ ap (λ (r : Lines). text₁ p.0 ++ r) b.1 ∙ sym (append_assoc (text₁ p.0) (text₂ p.1) rest))

    keeps : (lines rest : Lines) (p : X × Y) → in_turn first second lines ≡ Read p rest → (good : Lines) (l : List ℕ) (after other : Lines) → rest ≡ good ++ l ∷ after
        → in_turn first second ((text₁ p.0 ++ text₂ p.1) ++ (good ++ l ∷ other)) ≡ Read p (good ++ l ∷ other)
    keeps lines rest p h good l after other is =
        let parts = turn-read (first lines) second p rest h in
        let b = two.sound parts.0 rest p.1 parts.2 in
        let middle = two.keeps parts.0 rest p.1 parts.2 good l after other is in
        let split : parts.0 ≡ (text₂ p.1 ++ good) ++ l ∷ after = b.1 ∙ ap (λ (r : Lines). text₂ p.1 ++ r) is ∙ sym (append_assoc (text₂ p.1) good (l ∷ after)) in
        let outer = one.keeps lines parts.0 p.0 parts.1 (text₂ p.1 ++ good) l after other split in
        let lines' : (text₁ p.0 ++ text₂ p.1) ++ (good ++ l ∷ other) ≡ text₁ p.0 ++ ((text₂ p.1 ++ good) ++ l ∷ other) =
        append_assoc (text₁ p.0) (text₂ p.1) (good ++ l ∷ other) ∙ ap (λ (r : Lines). text₁ p.0 ++ r) (sym (append_assoc (text₂ p.1) good (l ∷ other))) in
        let rest' = append_assoc (text₂ p.1) good (l ∷ other) in
        ap (in_turn first second) lines' ∙ ap (λ (o : Found X). turn o second) outer
        ∙ ap (λ (r : Lines). turn (Read p.0 r) second) rest' ∙ ap (λ (o : Found Y). found_map {Y = X × Y} (λ y. (p.0, y)) o) middle

    own : (p : X × Y) (rest : Lines) → ok₁ p.0 × ok₂ p.1 → stands stop rest ≡ true → in_turn first second ((text₁ p.0 ++ text₂ p.1) ++ rest) ≡ Read p rest
    own p rest h s =
        let d = down p.1 rest h.1 s in
        ap (in_turn first second) (append_assoc (text₁ p.0) (text₂ p.1) rest)
        ∙ ap (λ (o : Found X). turn o second) (one.own p.0 (text₂ p.1 ++ rest) h.0 d.1)
        ∙ ap (λ (o : Found Y). found_map {Y = X × Y} (λ y. (p.0, y)) o) (two.own p.1 rest h.1 d.0)

    bad-first : (lines rest : Lines) → first lines ≡ Bad rest → BadAt {X = X × Y} (λ p. text₁ p.0 ++ text₂ p.1) (λ p. ok₁ p.0 × ok₂ p.1) (in_turn first second) lines rest
    bad-first lines rest h =
        let b = one.bad lines rest h in
        let x = b.2.0 in
        let more = b.2.2.0 in (
          b.0,
          b.1,
          ((x, y₀), (b.2.1, ok₀), (more ++ text₂ y₀, ap (λ (r : Lines). r ++ text₂ y₀) b.2.2.1 ∙ append_assoc b.0 more (text₂ y₀))),
          λ l after other is. ap (λ (o : Found X). turn o second) (b.3 l after other is),
        )

    bad-second : (lines middle rest : Lines) (x : X) → first lines ≡ Read x middle → second middle ≡ Bad rest → BadAt {X = X × Y} (λ p. text₁ p.0 ++ text₂ p.1) (λ p. ok₁ p.0 × ok₂ p.1) (in_turn first second) lines rest
    bad-second lines middle rest x h1 h2 =
        let a = one.sound lines middle x h1 in
        let b = two.bad middle rest h2 in
        let y = b.2.0 in
        let more = b.2.2.0 in (
          text₁ x ++ b.0,
          a.1 ∙ ap (λ (r : Lines). text₁ x ++ r) b.1 ∙ sym (append_assoc (text₁ x) b.0 rest),
          ((x, y), (a.0, b.2.1), (more, ap (λ (r : Lines). text₁ x ++ r) b.2.2.1 ∙ sym (append_assoc (text₁ x) b.0 more))),
          λ l after other is.
              let split : middle ≡ b.0 ++ l ∷ after = b.1 ∙ ap (λ (r : Lines). b.0 ++ r) is in
              ap (in_turn first second) (append_assoc (text₁ x) b.0 (l ∷ other))
              ∙ ap (λ (o : Found X). turn o second) (one.keeps lines middle x h1 b.0 l after other split)
              ∙ ap (λ (o : Found Y). found_map {Y = X × Y} (λ y. (x, y)) o) (b.3 l after other is),
        )

    bad : (lines rest : Lines) → in_turn first second lines ≡ Bad rest → BadAt {X = X × Y} (λ p. text₁ p.0 ++ text₂ p.1) (λ p. ok₁ p.0 × ok₂ p.1) (in_turn first second) lines rest
    bad lines rest h =
        elim (turn-bad (first lines) second rest h) [
          | inl e ↦ bad-first lines rest e
          | inr e ↦ bad-second lines e.1 rest e.0 e.2 e.3
        ]

-- ---- another value

pub map-exact : {A X : Type 0} (text₁ : A → Lines) (ok₁ : A → Type 0) (text : X → Lines) (ok : X → Type 0) (stop : List ℕ → Bool) (read : Reader A) (f : A → X) → Exact text₁ ok₁ stop read
    → ((a : A) → ok₁ a → ok (f a) × (text (f a) ≡ text₁ a)) → ((x : X) → ok x → (a : A) × (f a ≡ x) × ok₁ a) → Exact text ok stop (λ lines. found_map f (read lines))
map-exact {A} {X} text₁ ok₁ text ok stop read f one to from = record { sound = sound; keeps = keeps; own = own; bad = bad }
  where
    parts : (o : Found A) (x : X) (rest : Lines) → found_map f o ≡ Read x rest → (a : A) × (f a ≡ x) × (o ≡ Read a rest)
    parts (Read a r) x rest h = (a, same_value (f a) x r rest h, λ i. Read a (same_rest (f a) x r rest h i))
    parts (Bad r) x rest h = absurd cc

    bad-part : (o : Found A) (rest : Lines) → found_map f o ≡ Bad rest → o ≡ Bad rest
    bad-part (Read a r) rest h = absurd cc
    bad-part (Bad r) rest h = ap Bad (same_bad {X = X} r rest h)

    sound : (lines rest : Lines) (x : X) → found_map f (read lines) ≡ Read x rest → ok x × (lines ≡ text x ++ rest)
    sound lines rest x h =
        let p = parts (read lines) x rest h in
        let s = one.sound lines rest p.0 p.2 in
        let t = to p.0 s.0 in
        (subst ok p.1 t.0, s.1 ∙ ap (λ (r : Lines). r ++ rest) (sym t.1 ∙ ap text p.1))

    keeps : (lines rest : Lines) (x : X) → found_map f (read lines) ≡ Read x rest → (good : Lines) (l : List ℕ) (after other : Lines) → rest ≡ good ++ l ∷ after
        → found_map f (read (text x ++ (good ++ l ∷ other))) ≡ Read x (good ++ l ∷ other)
    keeps lines rest x h good l after other is =
        let p = parts (read lines) x rest h in
        let s = one.sound lines rest p.0 p.2 in
        let t = to p.0 s.0 in
        let same : text x ≡ text₁ p.0 = sym (ap text p.1) ∙ t.1 in
        ap (λ (r : Lines). found_map f (read (r ++ (good ++ l ∷ other)))) same ∙ ap (found_map f) (one.keeps lines rest p.0 p.2 good l after other is)
        ∙ ap (λ (y : X). Read y (good ++ l ∷ other)) p.1

    own : (x : X) (rest : Lines) → ok x → stands stop rest ≡ true → found_map f (read (text x ++ rest)) ≡ Read x rest
    own x rest h s =
        let a = from x h in
        let t = to a.0 a.2 in
        let same : text x ≡ text₁ a.0 = sym (ap text a.1) ∙ t.1 in
        ap (λ (r : Lines). found_map f (read (r ++ rest))) same ∙ ap (found_map f) (one.own a.0 rest a.2 s) ∙ ap (λ (y : X). Read y rest) a.1

    bad : (lines rest : Lines) → found_map f (read lines) ≡ Bad rest → BadAt text ok (λ lines. found_map f (read lines)) lines rest
    bad lines rest h =
        let b = one.bad lines rest (bad-part (read lines) rest h) in
        let t = to b.2.0 b.2.1 in
        (b.0, b.1, (f b.2.0, t.0, (b.2.2.0, t.1 ∙ b.2.2.1)), λ l after other is. ap (found_map f) (b.3 l after other is))

-- ---- many lines

-- a line each
abbrev pub lines_each : {X : Type 0} → (X → List ℕ) → List X → Lines
lines_each text [] = []
lines_each text (x ∷ xs) = text x ∷ lines_each text xs

pub many-exact : {X : Type 0} (text : X → List ℕ) (ok : X → Type 0) (of_line : List ℕ → Option X) → ExactLine text ok of_line → Exact (lines_each text) (Each ok) (λ l. is_none (of_line l)) (many_lines of_line)
many-exact {X} text ok of_line kind = record { sound = sound; keeps = keeps; own = own; bad = bad }
  where
    none-is : (o : Option X) → is_none o ≡ true → o ≡ None
    none-is None h = refl
    none-is (Some x) h = absurd (true≢false (sym h))

    head : (o : Found (List X)) (x : X) (xs : List X) (rest : Lines) → found_map (λ ys. x ∷ ys) o ≡ Read xs rest → (ys : List X) × (x ∷ ys ≡ xs) × (o ≡ Read ys rest)
    head (Read ys r) x xs rest h = (ys, same_value (x ∷ ys) xs r rest h, λ i. Read ys (same_rest (x ∷ ys) xs r rest h i))
    head (Bad r) x xs rest h = absurd cc

    by-sound : (l : List ℕ) (o : Option X) (lines rest : Lines) (xs : List X) → of_line l ≡ o → then_more o (many_lines of_line lines) (l ∷ lines) ≡ Read xs rest
        → ((ys : List X) (rest : Lines) → many_lines of_line lines ≡ Read ys rest → Each ok ys × (lines ≡ lines_each text ys ++ rest)) → Each ok xs × (l ∷ lines ≡ lines_each text xs ++ rest)
    by-sound l None lines rest xs is h ih =
        let same = same_value [] xs (l ∷ lines) rest h in
        (subst (Each ok) same tt, (λ i. lines_each text (same i) ++ same_rest [] xs (l ∷ lines) rest h i))
    by-sound l (Some x) lines rest xs is h ih =
        let p = head (many_lines of_line lines) x xs rest h in
        let k = kind.sound l x is in
        let s = ih p.0 rest p.2 in
        (subst (Each ok) p.1 (k.0, s.0), (λ i. k.1 i ∷ s.1 i) ∙ ap (λ (ys : List X). lines_each text ys ++ rest) p.1)

    sound : (lines rest : Lines) (xs : List X) → many_lines of_line lines ≡ Read xs rest → Each ok xs × (lines ≡ lines_each text xs ++ rest)
    sound [] rest xs h =
        let same = same_value [] xs [] rest h in
        (subst (Each ok) same tt, (λ i. lines_each text (same i) ++ same_rest [] xs [] rest h i))
    sound (l ∷ lines) rest xs h = by-sound l (of_line l) lines rest xs refl h (λ ys r e. sound lines r ys e)

    own : (xs : List X) (rest : Lines) → Each ok xs → stands (λ l. is_none (of_line l)) rest ≡ true → many_lines of_line (lines_each text xs ++ rest) ≡ Read xs rest
    own [] [] h s = refl
    own [] (l ∷ rest) h s = rw (none-is (of_line l) s) refl
    own (x ∷ xs) rest h s = rw (kind.own x h.0, own xs rest h.1 s) refl

    by-stopped : (l : List ℕ) (o : Option X) (lines rest : Lines) (xs : List X) → of_line l ≡ o → then_more o (many_lines of_line lines) (l ∷ lines) ≡ Read xs rest
        → ((ys : List X) → many_lines of_line lines ≡ Read ys rest → stands (λ l. is_none (of_line l)) rest ≡ true) → stands (λ l. is_none (of_line l)) rest ≡ true
    by-stopped l None lines rest xs is h ih = subst (λ r. stands (λ l. is_none (of_line l)) r ≡ true) (same_rest [] xs (l ∷ lines) rest h) (ap is_none is)
    by-stopped l (Some x) lines rest xs is h ih = let p = head (many_lines of_line lines) x xs rest h in ih p.0 p.2

    stopped : (lines rest : Lines) (xs : List X) → many_lines of_line lines ≡ Read xs rest → stands (λ l. is_none (of_line l)) rest ≡ true
    stopped [] rest xs h = subst (λ r. stands (λ l. is_none (of_line l)) r ≡ true) (same_rest [] xs [] rest h) refl
    stopped (l ∷ lines) rest xs h = by-stopped l (of_line l) lines rest xs refl h (λ ys e. stopped lines rest ys e)

    moved : (good : Lines) (l : List ℕ) (after other : Lines) → stands (λ l. is_none (of_line l)) (good ++ l ∷ after) ≡ true → stands (λ l. is_none (of_line l)) (good ++ l ∷ other) ≡ true
    moved [] l after other h = h
    moved (g ∷ good) l after other h = h

    keeps : (lines rest : Lines) (xs : List X) → many_lines of_line lines ≡ Read xs rest → (good : Lines) (l : List ℕ) (after other : Lines) → rest ≡ good ++ l ∷ after
        → many_lines of_line (lines_each text xs ++ (good ++ l ∷ other)) ≡ Read xs (good ++ l ∷ other)
    keeps lines rest xs h good l after other is =
        own xs (good ++ l ∷ other) (sound lines rest xs h).0 (moved good l after other (subst (λ r. stands (λ l. is_none (of_line l)) r ≡ true) is (stopped lines rest xs h)))

    by-never : (o : Option X) (more : Found (List X)) (lines rest : Lines) → then_more o more lines ≡ Bad rest → ((r : Lines) → more ≡ Bad r → ⊥) → ⊥
    by-never None more lines rest h ih = cc h
    by-never (Some x) (Read ys r) lines rest h ih = cc h
    by-never (Some x) (Bad r) lines rest h ih = ih r refl

    never : (lines rest : Lines) → many_lines of_line lines ≡ Bad rest → ⊥
    never [] rest h = cc h
    never (l ∷ lines) rest h = by-never (of_line l) (many_lines of_line lines) (l ∷ lines) rest h (λ r e. never lines r e)

    bad : (lines rest : Lines) → many_lines of_line lines ≡ Bad rest → BadAt (lines_each text) (Each ok) (many_lines of_line) lines rest
    bad lines rest h = absurd (never lines rest h)

-- ---- a row

-- the texts of these, numbered from k on
abbrev pub row_text : {X : Type 0} → (ℕ → X → Lines) → ℕ → List X → Lines
row_text text k [] = []
row_text text k (x ∷ xs) = text k x ++ row_text text (k + 1) xs

-- what may stand after: what may stand after the last
abbrev pub row_stop : (ℕ → List ℕ → Bool) → ℕ → ℕ → List ℕ → Bool
row_stop stop zero k = any_line
row_stop stop (suc zero) k = stop k
row_stop stop (suc (suc n)) k = row_stop stop (suc n) (k + 1)

-- a default row
default_row : {X : Type 0} (x₀ : ℕ → X) → ℕ → ℕ → List X
default_row x₀ zero k = []
default_row x₀ (suc n) k = x₀ k ∷ default_row x₀ n (k + 1)

default_ok : {X : Type 0} (ok : ℕ → X → Type 0) (x₀ : ℕ → X) → ((k : ℕ) → ok k (x₀ k)) → (n k : ℕ) → EachOf ok n k (default_row x₀ n k)
unfolding default_row
default_ok ok x₀ h zero k = tt
default_ok ok x₀ h (suc n) k = (h k, default_ok ok x₀ h n (k + 1))

nothing-exact : {X : Type 0} (text : ℕ → X → Lines) (ok : ℕ → X → Type 0) (k : ℕ) → Exact (row_text text k) (EachOf ok zero k) any_line (λ lines. Read [] lines)
nothing-exact {X} text ok k = record { sound = sound; keeps = keeps; own = own; bad = bad }
  where
    sound : (lines rest : Lines) (xs : List X) → Read [] lines ≡ Read xs rest → EachOf ok zero k xs × (lines ≡ row_text text k xs ++ rest)
    sound lines rest [] h = (tt, same_rest {X = List X} [] [] lines rest h)
    sound lines rest (x ∷ xs) h = absurd (let e = same_value [] (x ∷ xs) lines rest h in cc e)

    keeps : (lines rest : Lines) (xs : List X) → Read [] lines ≡ Read xs rest → (good : Lines) (l : List ℕ) (after other : Lines) → rest ≡ good ++ l ∷ after
        → ◌≡◌ {A = Found (List X)} (Read [] (row_text text k xs ++ (good ++ l ∷ other))) (Read xs (good ++ l ∷ other))
    keeps lines rest [] h good l after other is = refl
    keeps lines rest (x ∷ xs) h good l after other is = absurd (let e = same_value [] (x ∷ xs) lines rest h in cc e)

    own : (xs : List X) (rest : Lines) → EachOf ok zero k xs → stands any_line rest ≡ true → ◌≡◌ {A = Found (List X)} (Read [] (row_text text k xs ++ rest)) (Read xs rest)
    own [] rest h s = refl
    own (x ∷ xs) rest h s = absurd h

    bad : (lines rest : Lines) → ◌≡◌ {A = Found (List X)} (Read [] lines) (Bad rest) → BadAt (row_text text k) (EachOf ok zero k) (λ lines. Read [] lines) lines rest
    bad lines rest h = absurd cc

-- the found pair of the first and the others, as a list
turn-list : {X : Type 0} (o : Found X) (more : Reader (List X)) → found_map (λ (p : X × List X). p.0 ∷ p.1) (turn o more) ≡ (o >>= (λ x rest. found_map (λ xs. x ∷ xs) (more rest)))
turn-list (Bad r) more = refl
turn-list {X} (Read x r) more = by (more r)
  where
    by : (q : Found (List X)) → found_map (λ (p : X × List X). p.0 ∷ p.1) (found_map {Y = X × List X} (λ y. (x, y)) q) ≡ found_map (λ xs. x ∷ xs) q
    by (Read xs s) = refl
    by (Bad s) = refl

-- an equal reader
pub same-exact : {X : Type 0} (text : X → Lines) (ok : X → Type 0) (stop : List ℕ → Bool) (read other : Reader X) → ((lines : Lines) → read lines ≡ other lines) → Exact text ok stop read → Exact text ok stop other
same-exact text ok stop read other same one =
    record {
      sound = λ lines rest x h. one.sound lines rest x (same lines ∙ h);
      keeps = λ lines rest x h good l after next is. sym (same (text x ++ (good ++ l ∷ next))) ∙ one.keeps lines rest x (same lines ∙ h) good l after next is;
      own = λ x rest h s. sym (same (text x ++ rest)) ∙ one.own x rest h s;
      bad = λ lines rest h. let b = one.bad lines rest (same lines ∙ h) in (b.0, b.1, b.2, λ l after next is. sym (same (b.0 ++ l ∷ next)) ∙ b.3 l after next is);
    }

-- so many texts, where each may stand after the one before
pub row-exact : {X : Type 0} (text : ℕ → X → Lines) (ok : ℕ → X → Type 0) (stop : ℕ → List ℕ → Bool) (reader : ℕ → Reader X) (x₀ : ℕ → X) → ((k : ℕ) → ok k (x₀ k))
    → ((k : ℕ) → Exact (text k) (ok k) (stop k) (reader k)) → ((k : ℕ) (x : X) (rest : Lines) → ok (k + 1) x → stands (stop k) (text (k + 1) x ++ rest) ≡ true)
    → (n k : ℕ) → Exact (row_text text k) (EachOf ok n k) (row_stop stop n k) (row reader n k)
row-exact text ok stop reader x₀ ok₀ each next zero k = nothing-exact text ok k
row-exact {X} text ok stop reader x₀ ok₀ each next (suc n) k =
    let more = row-exact text ok stop reader x₀ ok₀ each next n (k + 1) in
    let pair = turn-exact (text k) (ok k) (stop k) (reader k) (row_text text (k + 1)) (EachOf ok n (k + 1)) (row_stop stop n (k + 1)) (row reader n (k + 1)) (row_stop stop (suc n) k)
    (default_row x₀ n (k + 1)) (default_ok ok x₀ ok₀ n (k + 1)) (each k) more (down n) in
    let list = map-exact (λ (p : X × List X). text k p.0 ++ row_text text (k + 1) p.1) (λ (p : X × List X). ok k p.0 × EachOf ok n (k + 1) p.1) (row_text text k) (EachOf ok (suc n) k) (row_stop stop (suc n) k) (in_turn (reader k) (row reader n (k + 1)))
    (λ (p : X × List X). p.0 ∷ p.1) pair (λ p h. (h, refl)) from in
    same-exact (row_text text k) (EachOf ok (suc n) k) (row_stop stop (suc n) k) _ (row reader (suc n) k) (λ lines. turn-list (reader k lines) (row reader n (k + 1))) list
  where
    down : (n : ℕ) (xs : List X) (rest : Lines) → EachOf ok n (k + 1) xs → stands (row_stop stop (suc n) k) rest ≡ true → (stands (row_stop stop n (k + 1)) rest ≡ true) × (stands (stop k) (row_text text (k + 1) xs ++ rest) ≡ true)
    down zero [] rest h s = (stands-any rest, s)
    down zero (x ∷ xs) rest h s = absurd h
    down (suc n) [] rest h s = absurd h
    down (suc n) (x ∷ xs) rest h s =
        (s, ap (stands (stop k)) (append_assoc (text (k + 1) x) (row_text text (k + 1 + 1) xs) rest) ∙ next k x (row_text text (k + 1 + 1) xs ++ rest) h.0)

    from : (xs : List X) → EachOf ok (suc n) k xs → (p : X × List X) × (p.0 ∷ p.1 ≡ xs) × (ok k p.0 × EachOf ok n (k + 1) p.1)
    from [] h = absurd h
    from (x ∷ xs) h = ((x, xs), refl, h)

-- ---- a part under its title

abbrev pub titled_text : {X : Type 0} → List ℕ → (X → Lines) → Option X → Lines
titled_text title text None = []
titled_text title text (Some x) = title ∷ text x

abbrev pub titled_stop : List ℕ → (List ℕ → Bool) → List ℕ → Bool
titled_stop title stop l = not (same_text l title) && stop l

pub titled-exact : {X : Type 0} (title : List ℕ) (text : X → Lines) (ok : X → Type 0) (stop : List ℕ → Bool) (reader : Reader X) → Exact text ok stop reader
    → Exact (titled_text title text) (IfThere ok) (titled_stop title stop) (titled title reader)
titled-exact {X} title text ok stop reader one = record { sound = sound; keeps = keeps; own = own; bad = bad }
  where
    some : (o : Found X) (x : Option X) (rest : Lines) → found_map Some o ≡ Read x rest → (y : X) × (Some y ≡ x) × (o ≡ Read y rest)
    some (Read y r) x rest h = (y, same_value (Some y) x r rest h, λ i. Read y (same_rest (Some y) x r rest h i))
    some (Bad r) x rest h = absurd cc

    some-bad : (o : Found X) (rest : Lines) → found_map Some o ≡ Bad rest → o ≡ Bad rest
    some-bad (Read y r) rest h = absurd cc
    some-bad (Bad r) rest h = ap Bad (same_bad {X = Option X} r rest h)

    by-sound : (l : List ℕ) (t : Bool) (lines rest : Lines) (x : Option X) → (t ≡ true → l ≡ title) → cond t (found_map Some (reader lines)) (Read None (l ∷ lines)) ≡ Read x rest
        → IfThere ok x × (l ∷ lines ≡ titled_text title text x ++ rest)
    by-sound l true lines rest x is h =
        let p = some (reader lines) x rest h in
        let s = one.sound lines rest p.0 p.2 in
        (subst (IfThere ok) p.1 s.0, (λ i. is refl i ∷ s.1 i) ∙ ap (λ (y : Option X). titled_text title text y ++ rest) p.1)
    by-sound l false lines rest x is h =
        let same = same_value None x (l ∷ lines) rest h in
        (subst (IfThere ok) same tt, same_rest None x (l ∷ lines) rest h ∙ ap (λ (y : Option X). titled_text title text y ++ rest) same)

    sound : (lines rest : Lines) (x : Option X) → titled title reader lines ≡ Read x rest → IfThere ok x × (lines ≡ titled_text title text x ++ rest)
    sound [] rest x h =
        let same = same_value None x [] rest h in
        (subst (IfThere ok) same tt, same_rest None x [] rest h ∙ ap (λ (y : Option X). titled_text title text y ++ rest) same)
    sound (l ∷ lines) rest x h = by-sound l (same_text l title) lines rest x (same_text-eq l title) h

    headed : (good : Lines) (m l : List ℕ) (lines after other : Lines) → same_text m title ≡ false → m ∷ lines ≡ good ++ l ∷ after → titled title reader (good ++ l ∷ other) ≡ Read None (good ++ l ∷ other)
    headed [] m l lines after other differs is = let same = same_head m l lines after is in rw (rw same at differs) refl
    headed (g ∷ good) m l lines after other differs is = let same = same_head m g lines (good ++ l ∷ after) is in rw (rw same at differs) refl

    by-keeps : (m : List ℕ) (t : Bool) (lines rest : Lines) (x : Option X) → same_text m title ≡ t → cond t (found_map Some (reader lines)) (Read None (m ∷ lines)) ≡ Read x rest → (good : Lines) (l : List ℕ) (after other : Lines) → rest ≡ good ++ l ∷ after
        → titled title reader (titled_text title text x ++ (good ++ l ∷ other)) ≡ Read x (good ++ l ∷ other)
    by-keeps m true lines rest x t h good l after other is =
        let p = some (reader lines) x rest h in
        let k = one.keeps lines rest p.0 p.2 good l after other is in
        subst (λ (y : Option X). titled title reader (titled_text title text y ++ (good ++ l ∷ other)) ≡ Read y (good ++ l ∷ other)) p.1 (rw (same_text-refl title, k) refl)
    by-keeps m false lines rest x t h good l after other is =
        subst (λ (y : Option X). titled title reader (titled_text title text y ++ (good ++ l ∷ other)) ≡ Read y (good ++ l ∷ other)) (same_value None x (m ∷ lines) rest h)
        (headed good m l lines after other t (same_rest None x (m ∷ lines) rest h ∙ is))

    keeps : (lines rest : Lines) (x : Option X) → titled title reader lines ≡ Read x rest → (good : Lines) (l : List ℕ) (after other : Lines) → rest ≡ good ++ l ∷ after
        → titled title reader (titled_text title text x ++ (good ++ l ∷ other)) ≡ Read x (good ++ l ∷ other)
    keeps [] rest x h good l after other is = absurd (nothing good l after (same_rest None x [] rest h ∙ is))
      where
        nothing : (good : Lines) (l : List ℕ) (after : Lines) → [] ≡ good ++ l ∷ after → ⊥
        nothing [] l after e = cc e
        nothing (g ∷ good) l after e = cc e
    keeps (m ∷ lines) rest x h good l after other is = by-keeps m (same_text m title) lines rest x refl h good l after other is

    own : (x : Option X) (rest : Lines) → IfThere ok x → stands (titled_stop title stop) rest ≡ true → titled title reader (titled_text title text x ++ rest) ≡ Read x rest
    own None [] h s = refl
    own None (l ∷ rest) h s = rw (not-true (same_text l title) (and_parts (not (same_text l title)) (stop l) s).0) refl
    own (Some x) rest h s = rw (same_text-refl title, one.own x rest h (weaker rest s)) refl
      where
        weaker : (rest : Lines) → stands (titled_stop title stop) rest ≡ true → stands stop rest ≡ true
        weaker [] s = refl
        weaker (l ∷ rest) s = (and_parts (not (same_text l title)) (stop l) s).1

    by-bad : (l : List ℕ) (t : Bool) (lines rest : Lines) → same_text l title ≡ t → cond t (found_map Some (reader lines)) (Read None (l ∷ lines)) ≡ Bad rest
        → BadAt (titled_text title text) (IfThere ok) (titled title reader) (l ∷ lines) rest
    by-bad l true lines rest t h =
        let b = one.bad lines rest (some-bad (reader lines) rest h) in (
          l ∷ b.0,
          ap (λ (r : Lines). l ∷ r) b.1,
          (Some b.2.0, b.2.1, (b.2.2.0, (λ i. sym (same_text-eq l title t) i ∷ b.2.2.1 i))),
          λ m after other is. rw (t, b.3 m after other is) refl,
        )
    by-bad l false lines rest t h = absurd cc

    bad : (lines rest : Lines) → titled title reader lines ≡ Bad rest → BadAt (titled_text title text) (IfThere ok) (titled title reader) lines rest
    bad [] rest h = absurd cc
    bad (l ∷ lines) rest h = by-bad l (same_text l title) lines rest refl h
