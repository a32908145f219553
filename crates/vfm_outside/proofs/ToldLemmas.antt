-- Steps of the loops that write all bytes, and read up to a bound.
use Rattle.std.specs.Prelude.{Result, Ok, Err, OnErr}
use Rattle.std.proofs.Common.{◌≡◌, ◌∙◌, sym, ap, ℕ, ◌+◌, ◌-◌, ◌≤◌, Option, Some, None, IfSome, List, ◌++◌, length, take, drop, arith, subst, append-nil}
use Rattle.std.proofs.lemmas.List.{take-append-drop, take-take, drop-take, take_at, take_all, take_rest}
use Rattle.vfm_outside.specs.Told.{with_appended, with_prepended, TellsNone, with_appended-with_appended, with_prepended-with_prepended}

-- a prefix, and a prefix of what comes after it, are a longer prefix
pub take-then-take : {T : Type 0} (xs : List T) (i n : ℕ) → take i xs ++ take n (drop i xs) ≡ take (i + n) xs
take-then-take xs i n =
    let short : i ≤ i + n = omega arith in
    ap (λ start. start ++ take n (drop i xs)) (sym (take-take i (i + n) xs short))
    ∙ ap (λ back. take i (take (i + n) xs) ++ back) (sym (drop-take i n xs))
    ∙ take-append-drop i (take (i + n) xs)

-- one more piece of a list is written
pub with_appended-more : {T : Type 0} (told : Option (List T)) (xs : List T) (i n : ℕ)
    → with_appended (with_appended told (take i xs)) (take n (drop i xs)) ≡ with_appended told (take (i + n) xs)
with_appended-more told xs i n =
    with_appended-with_appended told (take i xs) (take n (drop i xs)) ∙ ap (with_appended told) (take-then-take xs i n)

-- what was read so far, where so many bytes were wanted
pub read-full : (bytes : List ℕ) (left now : Option (List ℕ)) (most : ℕ)
    → left ≡ with_prepended bytes now → length bytes ≡ most → IfSome left (λ xs. bytes ≡ take most xs)
read-full bytes left None most e full = subst (λ o. IfSome o (λ xs. bytes ≡ take most xs)) (sym e) tt
read-full bytes left (Some rest) most e full =
    subst (λ o. IfSome o (λ xs. bytes ≡ take most xs)) (sym e) (sym (take_at bytes rest most full))

-- what was read so far, where nothing is left
pub read-end : (bytes : List ℕ) (left now : Option (List ℕ)) (most : ℕ)
    → left ≡ with_prepended bytes now → TellsNone now → length bytes ≤ most → IfSome left (λ xs. bytes ≡ take most xs)
read-end bytes left None most e none short = subst (λ o. IfSome o (λ xs. bytes ≡ take most xs)) (sym e) tt
read-end bytes left (Some rest) most e none short =
    let whole : bytes ++ rest ≡ bytes = ap (λ r. bytes ++ r) none ∙ append-nil bytes in
    let all : take most (bytes ++ rest) ≡ bytes = ap (take most) whole ∙ take_all most bytes short in
    subst (λ o. IfSome o (λ xs. bytes ≡ take most xs)) (sym e) (sym all)

-- one more piece was read
pub read-more : (left before now : Option (List ℕ)) (bytes piece : List ℕ)
    → left ≡ with_prepended bytes before → before ≡ with_prepended piece now → left ≡ with_prepended (bytes ++ piece) now
read-more left before now bytes piece e more =
    e ∙ ap (with_prepended bytes) more ∙ with_prepended-with_prepended bytes piece now

-- one more piece of a list is written, from what two calls say
pub write-more : (start before now : Option (List ℕ)) (xs : List ℕ) (i n : ℕ)
    → before ≡ with_appended start (take i xs)
    → now ≡ with_appended before (take n (take (length xs - i) (drop i xs)))
    → now ≡ with_appended start (take (i + n) xs)
write-more start before now xs i n e more =
    more
    ∙ ap (λ piece. with_appended before (take n piece)) (take_rest xs i)
    ∙ ap (λ told. with_appended told (take n (drop i xs))) e
    ∙ with_appended-more start xs i n

-- a fact that holds holds at an error
pub on_err : {T E : Type 0} (r : Result T E) (P : Type 0) → P → OnErr r P
on_err (Ok x) P p = tt
on_err (Err e) P p = p
