-- The entries of a log stand in the seats' lists, each at its place.
use Rattle.std.proofs.Common.{◌≡◌, ◌≢◌, ℕ, zero, suc, ◌+◌, ◌-◌, ◌≤◌, ◌==◌, ◌||◌, true, false, if◌then◌else◌, List, [], ◌∷◌, ◌++◌, map, reverse, length, take, refl, ap, ap₂, sym, ◌∙◌, arith, Option, Some, None, eqb-true, ⊎_elim}
use Rattle.std.specs.List.{slice_get}
use Rattle.std.proofs.lemmas.Bool.{eq-eqb, ne_eqb, cond-true, cond-false, cases_eq, false≢true}
use Rattle.std.proofs.lemmas.List.{length-reverse, length-map, reverse-append}
use Rattle.vfm_types.specs.declared.entry.Entry.{Entry}
use Rattle.vfm_laws.proofs.Rising.{by_bool}
use Rattle.vfm_turn.specs.declared.seen.Drawn.{Drawn}
use Rattle.vfm_turn.specs.Log.{Each, drawn_by}
use Rattle.vfm_turn.specs.Order.{has}
use Rattle.vfm_turn.proofs.Logs.{drawn_here}
use Rattle.vfm_cells.specs.Cells.{Cell}
use Rattle.vfm_cells.specs.WholeRun.{entries_of}
use Rattle.vfm_plant.specs.declared.seat.Made.{Made}
use Rattle.vfm_plant.specs.Closed.{AreAtPlaces, find_at, find_in, first_of}
use Rattle.vfm_plant.specs.Seat.{made_of}

get_end : (xs : List Entry) (e : Entry) → slice_get (xs ++ e ∷ []) (length xs) ≡ Some e
get_end [] e = refl
get_end (x ∷ xs) e = get_end xs e

get_else : (xs : List Entry) (e : Entry) (k : ℕ) → k ≢ length xs → slice_get (xs ++ e ∷ []) k ≡ slice_get xs k
get_else [] e zero n = absurd (n refl)
get_else [] e (suc k) n = refl
get_else (x ∷ xs) e zero n = refl
get_else (x ∷ xs) e (suc k) n = get_else xs e k (λ same. n (ap suc same))

get_past : (xs : List Entry) → slice_get xs (length xs) ≡ None
get_past [] = refl
get_past (x ∷ xs) = get_past xs

find_else : (p : ℕ) (xs : List Made) (m : Made) → (m.place == p) ≡ false → find_in p (xs ++ m ∷ []) ≡ find_in p xs
find_else p [] m n = cond-false _ _ _ n
find_else p (x ∷ xs) m n = ap (λ (o : Option Entry). if x.place == p then Some x.entry else o) (find_else p xs m n)

find_end : (p : ℕ) (xs : List Made) (m : Made) → (m.place == p) ≡ true → find_in p xs ≡ None → find_in p (xs ++ m ∷ []) ≡ Some m.entry
find_end p [] m y none = cond-true _ _ _ y
find_end p (x ∷ xs) m y none =
    by_bool (x.place == p) (λ b. (x.place == p) ≡ b → (if b then Some x.entry else find_in p xs) ≡ None
    → (if b then Some x.entry else find_in p (xs ++ m ∷ [])) ≡ Some m.entry)
    (λ here e none. absurd (some_not x.entry none)) (λ away e none. find_end p xs m y none) refl none
  where
    some_not : (e : Entry) → Some e ≡ None → ⊥
    some_not e same = cc

-- the lists of these seats, oldest first, by a log
abbrev pub lists_of : ℕ → List (Drawn Cell) → List ℕ → List (List Made)
lists_of base log [] = []
lists_of base log (n ∷ ns) = reverse (map (made_of base) (drawn_by n log)) ∷ lists_of base log ns

-- where the entry is, by the lists
pub found_there : (base n : ℕ) (lists : List (List Made)) (log : List Entry) (o : Option Entry) → AreAtPlaces base lists log → base ≤ n
    → find_at n lists ≡ o → slice_get log (n - base) ≡ o
found_there base n lists log o at low is =
    let same : base + (n - base) ≡ n = omega arith in
    sym (at (n - base)) ∙ (ap (λ (p : ℕ). find_at p lists) same ∙ is)

pub take_get : (xs : List Entry) (k : ℕ) (e : Entry) → slice_get xs k ≡ Some e → take k xs ++ e ∷ [] ≡ take (suc k) xs
take_get [] k e is = cc
take_get (x ∷ xs) zero e is = let same : e ≡ x = cc in ap (λ (y : Entry). y ∷ []) same
take_get (x ∷ xs) (suc k) e is = ap (λ (ys : List Entry). x ∷ ys) (take_get xs k e is)

pub take_none : (xs : List Entry) (k : ℕ) → slice_get xs k ≡ None → take k xs ≡ xs
take_none [] zero is = refl
take_none [] (suc k) is = refl
take_none (x ∷ xs) zero is = cc
take_none (x ∷ xs) (suc k) is = ap (λ (ys : List Entry). x ∷ ys) (take_none xs k is)

-- the stamps count from 0
abbrev pub AreCounted : List (Drawn Cell) → Type 0
AreCounted [] = Unit {0}
AreCounted (r ∷ log) = (r.stamp ≡ length log) × AreCounted log

abbrev mine : ℕ → List (Drawn Cell) → ℕ → List Made
mine base log n = reverse (map (made_of base) (drawn_by n log))

mine_here : (base : ℕ) (r : Drawn Cell) (log : List (Drawn Cell)) (n : ℕ) → (r.by == n) ≡ true → mine base (r ∷ log) n ≡ mine base log n ++ made_of base r ∷ []
mine_here base r log n y =
    ap (λ (rs : List (Drawn Cell)). reverse (map (made_of base) rs)) (drawn_here n r log (eqb-true r.by n y))
    ∙ reverse-append (made_of base r ∷ []) (map (made_of base) (drawn_by n log))

mine_else : (base : ℕ) (r : Drawn Cell) (log : List (Drawn Cell)) (n : ℕ) → (r.by == n) ≡ false → mine base (r ∷ log) n ≡ mine base log n
mine_else base r log n away =
    ap (λ (rs : List (Drawn Cell)). reverse (map (made_of base) rs)) (cond-false _ _ _ away)

-- one more record at another place changes nothing there
same_in : (base p : ℕ) (r : Drawn Cell) (log : List (Drawn Cell)) (n : ℕ) → ((base + r.stamp) == p) ≡ false
    → find_in p (mine base (r ∷ log) n) ≡ find_in p (mine base log n)
same_in base p r log n other =
    by_bool (r.by == n) (λ b. find_in p (mine base (r ∷ log) n) ≡ find_in p (mine base log n))
    (λ y. ap (find_in p) (mine_here base r log n y) ∙ find_else p (mine base log n) (made_of base r) other)
    (λ f. ap (find_in p) (mine_else base r log n f))

same_at : (base p : ℕ) (r : Drawn Cell) (log : List (Drawn Cell)) (ns : List ℕ) → ((base + r.stamp) == p) ≡ false
    → find_at p (lists_of base (r ∷ log) ns) ≡ find_at p (lists_of base log ns)
same_at base p r log [] other = refl
same_at base p r log (n ∷ ns) other = ap₂ first_of (same_in base p r log n other) (same_at base p r log ns other)

none_first : (o o' : Option Entry) → first_of o o' ≡ None → (o ≡ None) × (o' ≡ None)
none_first None o' e = (refl, e)
none_first (Some x) o' e = cc

-- it is found at its own
new_at : (base p : ℕ) (r : Drawn Cell) (log : List (Drawn Cell)) (ns : List ℕ) → ((base + r.stamp) == p) ≡ true → has r.by ns ≡ true
    → find_at p (lists_of base log ns) ≡ None → find_at p (lists_of base (r ∷ log) ns) ≡ Some r.entry
new_at base p r log [] here among none = absurd (false≢true among)
new_at base p r log (n ∷ ns) here among none =
    let parts = none_first (find_in p (mine base log n)) (find_at p (lists_of base log ns)) none in
    by_bool (n == r.by) (λ b. (n == r.by) ≡ b → (b || has r.by ns) ≡ true → find_at p (lists_of base (r ∷ log) (n ∷ ns)) ≡ Some r.entry)
    (λ y e among. ap (λ (o : Option Entry). first_of o (find_at p (lists_of base (r ∷ log) ns)))
    (ap (find_in p) (mine_here base r log n (eq-eqb r.by n (sym (eqb-true n r.by e)))) ∙ find_end p (mine base log n) (made_of base r) here parts.0))
    (λ f e among. ap (λ (o : Option Entry). first_of o (find_at p (lists_of base (r ∷ log) ns)))
    (ap (find_in p) (mine_else base r log n (ne_eqb r.by n (λ same. false≢true (sym e ∙ eq-eqb n r.by (sym same))))) ∙ parts.0)
    ∙ new_at base p r log ns here among parts.1) refl among

none_at : (base p : ℕ) (ns : List ℕ) → find_at p (lists_of base [] ns) ≡ None
none_at base p [] = refl
none_at base p (n ∷ ns) = none_at base p ns

pub log_found : (base : ℕ) (ns : List ℕ) (log : List (Drawn Cell)) → AreCounted log → Each (λ r. has r.by ns ≡ true) log
    → AreAtPlaces base (lists_of base log ns) (reverse (entries_of log))
log_found base ns [] counted among k = none_at base (base + k) ns
log_found base ns (r ∷ log) counted among k =
    let rest = reverse (entries_of log) in
    let len : length rest ≡ length log = length-reverse (entries_of log) ∙ length-map log (λ (q : Drawn Cell). q.entry) in
    let is : reverse (entries_of (r ∷ log)) ≡ rest ++ r.entry ∷ [] = reverse-append (r.entry ∷ []) (entries_of log) in
    let stamp = counted.0 in
    ⊎_elim (λ (here : k ≡ length rest).
    let same : base + r.stamp ≡ base + k = omega arith in
    let before : find_at (base + k) (lists_of base log ns) ≡ None = log_found base ns log counted.1 among.1 k ∙ (ap (slice_get rest) here ∙ get_past rest) in
    new_at base (base + k) r log ns (eq-eqb (base + r.stamp) (base + k) same) among.0 before
    ∙ (sym (get_end rest r.entry) ∙ (ap (slice_get (rest ++ r.entry ∷ [])) (sym here) ∙ ap (λ (es : List Entry). slice_get es k) (sym is))))
    (λ (other : k ≡ length rest → ⊥).
    same_at base (base + k) r log ns (ne_eqb (base + r.stamp) (base + k) (λ same. other (omega arith)))
    ∙ (log_found base ns log counted.1 among.1 k ∙ (sym (get_else rest r.entry k other) ∙ ap (λ (es : List Entry). slice_get es k) (sym is))))
    (cases_eq k (length rest))
