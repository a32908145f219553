-- Reading in loops: what was read so far, before what is read still.
use Rattle.std.proofs.Common.{◌≡◌, ℕ, zero, suc, ◌+◌, ◌-◌, ◌<◌, ◌≤◌, List, [], ◌∷◌, ◌++◌, length, drop, Option, Some, None, refl, ap, sym, ◌∙◌, arith, append_assoc, append-nil, get_or}
use Rattle.std.proofs.lemmas.List.{drop_more, drop_all}
use Rattle.std.specs.Option.{option_map}
use Rattle.vfm_report.specs.Found.{Found, Read, Bad, Reader, ◌>>=◌, found_map, one_line, row}
use Rattle.std.specs.Prelude.{Err}
use Rattle.vfm_report.specs.declared.stop.Stop.{Stop}
use Rattle.vfm_report.specs.declared.stop.Stop.TheVariants.{BadLine, NoMemory}
use Rattle.vfm_report.specs.Finding.{Finds}
use Rattle.vfm_report.specs.Readers.{bar_in, numbered_bars}
use Rattle.vfm_report.proofs.Exact.{same_value, same_rest, same_bad}

-- more after what was read
pub prepend-twice : {X : Type 0} (xs ys : List X) (o : Found (List X)) → found_map (λ zs. xs ++ zs) (found_map (λ zs. ys ++ zs) o) ≡ found_map (λ zs. (xs ++ ys) ++ zs) o
prepend-twice xs ys (Read zs r) = ap (λ v. Read v r) (sym (append_assoc xs ys zs))
prepend-twice xs ys (Bad r) = refl

pub prepend-one : {X : Type 0} (xs : List X) (x : X) (o : Found (List X)) → found_map (λ zs. xs ++ zs) (found_map (λ zs. x ∷ zs) o) ≡ found_map (λ zs. (xs ++ x ∷ []) ++ zs) o
prepend-one xs x o = prepend-twice xs (x ∷ []) o

pub prepend-nothing : {X : Type 0} (o : Found (List X)) → found_map (λ zs. [] ++ zs) o ≡ o
prepend-nothing (Read zs r) = refl
prepend-nothing (Bad r) = refl

-- one BAR more
bars-step : (items new : List ℕ) (o : Found (List ℕ)) (more : Reader (List ℕ)) (left : List (List ℕ)) → found_map (λ b. items ++ b) o ≡ Read new left
    → found_map (λ b. items ++ b) (found_map (λ (p : List ℕ × List ℕ). p.0 ++ p.1) (o >>= (λ x r. found_map (λ y. (x, y)) (more r)))) ≡ found_map (λ b. new ++ b) (more left)
bars-step items new (Bad r) more left h = absurd cc
bars-step items new (Read b r) more left h =
    let same = same_value (items ++ b) new r left h in
    by (more r) ∙ prepend-twice items b (more r) ∙ (λ i. found_map (λ z. same i ++ z) (more (same_rest (items ++ b) new r left h i)))
  where
    by : (q : Found (List ℕ)) → found_map (λ z. items ++ z) (found_map (λ (p : List ℕ × List ℕ). p.0 ++ p.1) (found_map {Y = List ℕ × List ℕ} (λ y. (b, y)) q)) ≡ found_map (λ z. items ++ z) (found_map (λ z. b ++ z) q)
    by (Read y s) = refl
    by (Bad s) = refl

bars-stop : (items : List ℕ) (o : Found (List ℕ)) (more : Reader (List ℕ)) (left : List (List ℕ)) → found_map (λ b. items ++ b) o ≡ Bad left
    → found_map (λ b. items ++ b) (found_map (λ (p : List ℕ × List ℕ). p.0 ++ p.1) (o >>= (λ x r. found_map (λ y. (x, y)) (more r)))) ≡ Bad left
bars-stop items (Bad r) more left h = ap Bad (same_bad {X = List ℕ} r left h)
bars-stop items (Read b r) more left h = absurd cc

pub numbered-step : (d k : ℕ) (sizes items new : List ℕ) (lines left : List (List ℕ)) → k < length sizes → found_map (λ b. items ++ b) (one_line (bar_in d k (get_or sizes k 0)) lines) ≡ Read new left
    → found_map (λ b. items ++ b) (numbered_bars d k (drop k sizes) lines) ≡ found_map (λ b. new ++ b) (numbered_bars d (k + 1) (drop (k + 1) sizes) left)
numbered-step d k sizes items new lines left lt h =
    ap (λ (ss : List ℕ). found_map (λ b. items ++ b) (numbered_bars d k ss lines)) (drop_more sizes k 0 lt)
    ∙ bars-step items new (one_line (bar_in d k (get_or sizes k 0)) lines) (numbered_bars d (k + 1) (drop (k + 1) sizes)) left h

pub numbered-stop : (d k : ℕ) (sizes items : List ℕ) (lines left : List (List ℕ)) → k < length sizes → found_map (λ b. items ++ b) (one_line (bar_in d k (get_or sizes k 0)) lines) ≡ Bad left
    → found_map (λ b. items ++ b) (numbered_bars d k (drop k sizes) lines) ≡ Bad left
numbered-stop d k sizes items lines left lt h =
    ap (λ (ss : List ℕ). found_map (λ b. items ++ b) (numbered_bars d k ss lines)) (drop_more sizes k 0 lt)
    ∙ bars-stop items (one_line (bar_in d k (get_or sizes k 0)) lines) (numbered_bars d (k + 1) (drop (k + 1) sizes)) left h

pub numbered-end : (d k : ℕ) (sizes items : List ℕ) (lines : List (List ℕ)) → length sizes ≤ k → found_map (λ b. items ++ b) (numbered_bars d k (drop k sizes) lines) ≡ Read items lines
numbered-end d k sizes items lines le =
    ap (λ (ss : List ℕ). found_map (λ b. items ++ b) (numbered_bars d k ss lines)) (drop_all k sizes le) ∙ ap (λ (v : List ℕ). Read v lines) (append-nil items)

-- one of a row more
pub row-step : {X : Type 0} (reader : ℕ → Reader X) (n p : ℕ) (items : List X) (lines left : List (List ℕ)) (x : X) → p < n → reader p lines ≡ Read x left
    → found_map (λ zs. items ++ zs) (row reader (n - p) p lines) ≡ found_map (λ zs. (items ++ x ∷ []) ++ zs) (row reader (n - (p + 1)) (p + 1) left)
row-step {X} reader n p items lines left x lt h =
    let size : n - p ≡ suc (n - (p + 1)) = omega arith in
    ap (λ (m : ℕ). found_map (λ zs. items ++ zs) (row reader m p lines)) size
    ∙ ap (λ (o : Found X). found_map (λ zs. items ++ zs) (o >>= (λ y rest. found_map (λ xs. y ∷ xs) (row reader (n - (p + 1)) (p + 1) rest)))) h
    ∙ prepend-one items x (row reader (n - (p + 1)) (p + 1) left)

pub row-stop : {X : Type 0} (reader : ℕ → Reader X) (n p : ℕ) (items : List X) (lines left : List (List ℕ)) → p < n → reader p lines ≡ Bad left
    → found_map (λ zs. items ++ zs) (row reader (n - p) p lines) ≡ Bad left
row-stop {X} reader n p items lines left lt h =
    let size : n - p ≡ suc (n - (p + 1)) = omega arith in
    ap (λ (m : ℕ). found_map (λ zs. items ++ zs) (row reader m p lines)) size
    ∙ ap (λ (o : Found X). found_map (λ zs. items ++ zs) (o >>= (λ y rest. found_map (λ xs. y ∷ xs) (row reader (n - (p + 1)) (p + 1) rest)))) h

pub row-end : {X : Type 0} (reader : ℕ → Reader X) (n p : ℕ) (items : List X) (lines : List (List ℕ)) → n ≤ p → found_map (λ zs. items ++ zs) (row reader (n - p) p lines) ≡ Read items lines
row-end {X} reader n p items lines le =
    let size : n - p ≡ zero = omega arith in
    ap (λ (m : ℕ). found_map (λ zs. items ++ zs) (row reader m p lines)) size ∙ ap (λ (v : List X). Read v lines) (append-nil items)

-- a value that there is, after nothing
pub after-nothing : (o : Option (List ℕ)) (b : List ℕ) → option_map (λ c. [] ++ c) o ≡ Some b → o ≡ Some b
after-nothing None b h = absurd cc
after-nothing (Some c) b h = h

pub after-none : (o : Option (List ℕ)) → option_map (λ c. [] ++ c) o ≡ None → o ≡ None
after-none None h = refl
after-none (Some c) h = absurd cc

-- a part that stops, and the whole that stops with it
pub stops : {X Y Z W : Type 0} (view : X → Y) (whole : Z → W) (e : Stop) (left : List (List ℕ)) (found : Found Y) (other : Found W) → Finds view (Err e) left found → (found ≡ Bad left → other ≡ Bad left)
    → Finds whole (Err e) left other
stops view whole BadLine left found other h then = then h
stops view whole NoMemory left found other h then = tt
