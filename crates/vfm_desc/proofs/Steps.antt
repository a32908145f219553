-- Reading one element after the other, as a loop does.
use Rattle.std.proofs.Common.{◌≡◌, ◌⊎◌, Bool, ℕ, ◌+◌, ◌≤◌, ◌<◌, List, [], ◌∷◌, ◌++◌, length, drop, get_or, map, Result, Ok, Err, refl, sym, ap, ◌∙◌, inl, inr, append_assoc, add-one, drop-cons}
use Rattle.std.specs.Prelude.{IsTrue}
use Rattle.std.specs.List.{list_all}
use Rattle.std.proofs.lemmas.List.{append-nil, drop_all}
use Rattle.std.proofs.lemmas.List.Folds.{list_all-append}
use Rattle.serde_json.specs.Data.{Data}
use Rattle.vfm_types.specs.declared.fault.DescFault.{DescFault}
use Rattle.vfm_types.specs.declared.fault.DescFault.TheVariants as fault
use Rattle.vfm_desc.specs.Reading.{◌>>=◌, Fails, each}

-- a fault is that memory ran out, or the one that was to come
pub Fails-cases : {Y : Type 0} (e : DescFault) (read : Result Y DescFault) → Fails e read → (e ≡ fault.NoMemory) ⊎ (read ≡ Err e)
Fails-cases fault.NoMemory read h = inl refl
Fails-cases fault.NotJson read h = inr h
Fails-cases (fault.Missing f) read h = inr h
Fails-cases (fault.Kind f) read h = inr h
Fails-cases (fault.Range f) read h = inr h
Fails-cases (fault.NameTwice d) read h = inr h
Fails-cases (fault.Crosses d j) read h = inr h
Fails-cases (fault.OwnBar d j) read h = inr h
Fails-cases (fault.BellKind d j) read h = inr h
Fails-cases (fault.NeedsP2p d) read h = inr h
Fails-cases fault.TooLong read h = inr h
Fails-cases (fault.NotYet f) read h = inr h

-- the fault that was to come
pub Fails-err : {Y : Type 0} (e : DescFault) (read : Result Y DescFault) → read ≡ Err e → Fails e read
Fails-err fault.NoMemory read h = tt
Fails-err fault.NotJson read h = h
Fails-err (fault.Missing f) read h = h
Fails-err (fault.Kind f) read h = h
Fails-err (fault.Range f) read h = h
Fails-err (fault.NameTwice d) read h = h
Fails-err (fault.Crosses d j) read h = h
Fails-err (fault.OwnBar d j) read h = h
Fails-err (fault.BellKind d j) read h = h
Fails-err (fault.NeedsP2p d) read h = h
Fails-err fault.TooLong read h = h
Fails-err (fault.NotYet f) read h = h

-- a fault of the first reading is one of all that leads there
pub Fails-along : {X Y : Type 0} (e : DescFault) (first : Result X DescFault) (all : Result Y DescFault) → (first ≡ Err e → all ≡ Err e) → Fails e first → Fails e all
Fails-along e first all lead h =
    elim (Fails-cases e first h) [ inl is ↦ rw is tt | inr is ↦ Fails-err e all (lead is) ]

-- what was read before, and what is still read
abbrev pub with_front : {A : Type 0} → List A → Result (List A) DescFault → Result (List A) DescFault
with_front front read = read >>= λ xs. Ok (front ++ xs)

regroup : {A : Type 0} (front : List A) (x : A) (read : Result (List A) DescFault) → with_front front (read >>= λ xs. Ok (x ∷ xs)) ≡ with_front (front ++ x ∷ []) read
regroup {A} front x (Ok xs) = ap (λ (ys : List A). Ok ys) (simp append_assoc)
regroup front x (Err e) = refl

-- the elements from one on are it and the rest
next_of : {V : Type 0} (objects : List V) (i : ℕ) (o : V) → i < length objects → o ≡ get_or objects i o → drop i objects ≡ o ∷ drop (i + 1) objects
next_of {V} objects i o lt is = drop-cons objects i o lt ∙ (rw (add-one, ← is) refl)

pub goes_on : {V A : Type 0} (see : V → Data) (read : ℕ → Data → Result A DescFault) (front : List A) (i : ℕ) (objects : List V) (o : V) (x : A) (total : Result (List A) DescFault)
    → i < length objects → o ≡ get_or objects i o → read i (see o) ≡ Ok x
    → with_front front (each read i (map see (drop i objects))) ≡ total → with_front (front ++ x ∷ []) (each read (i + 1) (map see (drop (i + 1) objects))) ≡ total
unfolding each
goes_on see read front i objects o x total lt is found so_far =
    let one : with_front front (each read i (map see (drop i objects))) ≡ with_front (front ++ x ∷ []) (each read (i + 1) (map see (drop (i + 1) objects))) =
    rw (next_of objects i o lt is, found) (regroup front x (each read (i + 1) (map see (drop (i + 1) objects)))) in
    sym one ∙ so_far

pub ends : {V A : Type 0} (e : DescFault) (see : V → Data) (read : ℕ → Data → Result A DescFault) (front : List A) (i : ℕ) (objects : List V) (o : V) (total : Result (List A) DescFault)
    → i < length objects → o ≡ get_or objects i o → Fails e (read i (see o))
    → with_front front (each read i (map see (drop i objects))) ≡ total → Fails e total
unfolding each
ends e see read front i objects o total lt is found so_far =
    Fails-along e (read i (see o)) total (λ h.
    let one : with_front front (each read i (map see (drop i objects))) ≡ Err e = rw (next_of objects i o lt is, h) refl in
    sym so_far ∙ one) found

pub is_done : {V A : Type 0} (see : V → Data) (read : ℕ → Data → Result A DescFault) (front : List A) (i : ℕ) (objects : List V) (total : Result (List A) DescFault)
    → length objects ≤ i → with_front front (each read i (map see (drop i objects))) ≡ total → total ≡ Ok front
unfolding each
is_done {V} {A} see read front i objects total le so_far =
    let one : with_front front (each read i (map see (drop i objects))) ≡ Ok front = rw (drop_all i objects le) (ap (λ (xs : List A). Ok xs) (append-nil front)) in
    sym so_far ∙ one

-- all have it, and one more
pub list_all-push : {X : Type 0} (p : X → Bool) (xs : List X) (x : X) → IsTrue (list_all p xs) → IsTrue (p x) → IsTrue (list_all p (xs ++ x ∷ []))
list_all-push p xs x all one = rw (list_all-append p xs (x ∷ []), all, one) refl
