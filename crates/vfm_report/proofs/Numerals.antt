-- Numbers in words, and their texts.
use Rattle.std.proofs.Common.{◌≡◌, ℕ, ◌<◌, ◌≤◌, ◌^◌, List, true, false, Option, Some, None, Result, Ok, Err, refl, ap, sym, ◌∙◌, decimal, arith}
use Rattle.std.specs.Prelude.{nat_lt}
use Rattle.std.specs.Str.Parse.{digits_value}
use Rattle.std.proofs.lemmas.Bool.{and_parts, lt-ltb, ltb-true, true≢false}
use Rattle.std.specs.Result.{result_unwrap_or}
use Rattle.std.specs.Str.{IsUtf8}
use Rattle.std.specs.Str.Parse.{ParsesUnsigned}
use Rattle.std.proofs.lemmas.Str.{IsUtf8-from_ascii}
use Rattle.std.proofs.lemmas.Fmt.{decimal_is_IsNumeral, decimal_injective, parse-decimal, IsAscii-decimal}
use Rattle.std.proofs.lemmas.Option.{cond_some, none-some}
use Rattle.vfm_report.specs.Same.{same_text}
use Rattle.vfm_report.specs.Numbers.{number_below, long_number}
use Rattle.vfm_report.proofs.Texts.{same_text-refl, same_text-eq}

-- a number below the bound is read from its text
pub number_below-decimal : (bound n : ℕ) → n < bound → n < 2 ^ 64 → number_below bound (decimal n) ≡ Some n
unfolding number_below
number_below-decimal bound n below small =
    let value = (decimal_is_IsNumeral n small).1 in
    rw (value, same_text-refl (decimal n), lt-ltb n bound below) refl

-- what is read is below the bound, and has that text
pub number_below-is : (bound : ℕ) (word : List ℕ) (n : ℕ) → number_below bound word ≡ Some n → (n < bound) × (decimal n ≡ word)
unfolding number_below
number_below-is bound word n h =
    let parts = cond_some _ _ _ h in
    let tests = and_parts (same_text (decimal (digits_value 10 word)) word) (nat_lt (digits_value 10 word) bound) parts.0 in
    let below = ltb-true _ _ tests.1 in
    let text = same_text-eq _ _ tests.0 in
    (rw (← parts.1) below, rw (← parts.1) text)

-- a smaller bound
pub number_below-smaller : (low high : ℕ) (word : List ℕ) (n : ℕ) → number_below high word ≡ Some n → n < low → low ≤ 2 ^ 64 → number_below low word ≡ Some n
number_below-smaller low high word n h below small =
    let is = number_below-is high word n h in
    rw (← is.1) (number_below-decimal low n below (omega arith))

none_from : {X : Type 0} (o : Option X) → ((x : X) → o ≡ Some x → ⊥) → o ≡ None
none_from None h = refl
none_from (Some x) h = absurd (h x refl)

-- nothing that is read otherwise
pub number_below-none : (bound : ℕ) (word : List ℕ) → ((n : ℕ) → n < bound → decimal n ≡ word → ⊥) → number_below bound word ≡ None
number_below-none bound word h =
    none_from (number_below bound word) (λ n is. let parts = number_below-is bound word n is in h n parts.0 parts.1)

-- what isn't read below a bound isn't read below a smaller one
pub number_below-wider : (low high : ℕ) (word : List ℕ) → number_below high word ≡ None → low ≤ high → high ≤ 2 ^ 64 → number_below low word ≡ None
number_below-wider low high word none less small =
    number_below-none low word (λ n below text. none-some n (sym none ∙ ap (number_below high) (sym text) ∙ number_below-decimal high n (omega arith) (omega arith)))

-- a number that is too large
pub number_below-large : (low high : ℕ) (word : List ℕ) (n : ℕ) → number_below high word ≡ Some n → low ≤ n → high ≤ 2 ^ 64 → number_below low word ≡ None
number_below-large low high word n some large small =
    let is = number_below-is high word n some in
    number_below-none low word (λ m below text. omega (arith, is.0, decimal_injective m n (omega (arith, is.0)) (omega (arith, is.0)) (text ∙ sym is.1)))

-- a number that was parsed, and whose text is the word
pub parsed-same : (word digits : List ℕ) (n : ℕ) → n < 2 ^ 64 → digits ≡ decimal n → same_text digits word ≡ true → Some n ≡ long_number word
parsed-same word digits n small text same = sym (rw (← (sym text ∙ same_text-eq digits word same)) (number_below-decimal (2 ^ 64) n small small))

-- one whose text isn't the word
pub parsed-other : {E : Type 0} → (word digits : List ℕ) (n : ℕ) (r : Result ℕ E) → n < 2 ^ 64 → r ≡ Ok n → ParsesUnsigned 64 10 word r → digits ≡ decimal n → same_text digits word ≡ false → None ≡ long_number word
parsed-other {E} word digits n r small ok parsed text other =
    sym (number_below-none (2 ^ 64) word (λ m below is.
    let again = parse-decimal 64 m word r below below (sym is) parsed in
    let same : n ≡ m = ap (λ (q : Result ℕ E). result_unwrap_or q 0) (sym ok ∙ again) in
    let eq : digits ≡ word = text ∙ ap decimal same ∙ is in
    true≢false (sym (same_text-refl word) ∙ rw eq at other)))

-- a word that isn't parsed
pub not_parsed : {E : Type 0} → (word : List ℕ) (r : Result ℕ E) (e : E) → r ≡ Err e → ParsesUnsigned 64 10 word r → None ≡ long_number word
not_parsed word r e err parsed =
    sym (number_below-none (2 ^ 64) word (λ m below is. let ok = parse-decimal 64 m word r below below (sym is) parsed in cc (sym ok ∙ err)))

-- bytes that are no text
pub not_text : (word : List ℕ) → (IsUtf8 word → ⊥) → None ≡ long_number word
not_text word none =
    sym (number_below-none (2 ^ 64) word (λ m below is. none (rw is at (IsUtf8-from_ascii (decimal m) (IsAscii-decimal m below)))))
