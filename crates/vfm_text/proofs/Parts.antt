-- A text in parts: what comes of one more element of a list, and of bytes cut in two.
use Rattle.std.proofs.Common.{◌≡◌, ℕ, zero, suc, ◌+◌, ◌/◌, ◌%◌, ◌<◌, List, [], ◌∷◌, ◌++◌, length, get_or, take, drop, map, refl, ap, sym, ◌∙◌, append_assoc, append-nil, add-zero, arith}
use Rattle.std.specs.List.{flat_map}
use Rattle.std.proofs.lemmas.List.{take-append-drop}
use Rattle.std.proofs.Math.Seq.{take-add}
use Rattle.vfm_plain.specs.Text.{line, numbered_text}
use Rattle.hex.specs.Hex.{encode_with, encode_lower, lower_digits}

-- the text of a list is that of its first i elements, then that of the next, then that of the rest
pub parts : {X : Type 0} (f : X → List ℕ) (xs : List X) (i : ℕ) (d : X) → i < length xs → flat_map f xs ≡ (flat_map f (take i xs) ++ f (get_or xs i d)) ++ flat_map f (drop (suc i) xs)
parts f [] i d h = absurd (omega arith)
parts f (x ∷ xs) zero d h = refl
parts f (x ∷ xs) (suc i) d h =
    let below : i < length xs = omega arith in
    ap (λ t. f x ++ t) (parts f xs i d below)
    ∙ sym (append_assoc (f x) (flat_map f (take i xs) ++ f (get_or xs i d)) (flat_map f (drop (suc i) xs)))
    ∙ ap (λ t. t ++ flat_map f (drop (suc i) xs)) (sym (append_assoc (f x) (flat_map f (take i xs)) (f (get_or xs i d))))

-- digits of two pieces are the digits of both
pub encode_with-append : (t xs ys : List ℕ) → encode_with t (xs ++ ys) ≡ encode_with t xs ++ encode_with t ys
unfolding encode_with
encode_with-append t [] ys = refl
encode_with-append t (x ∷ xs) ys = ap (λ r. get_or t (x / 16) 0 ∷ get_or t (x % 16) 0 ∷ r) (encode_with-append t xs ys)

pub encode_lower-append : (xs ys : List ℕ) → encode_lower (xs ++ ys) ≡ encode_lower xs ++ encode_lower ys
encode_lower-append xs ys = encode_with-append lower_digits xs ys

-- no bytes have no digits
pub encode_lower-nil : encode_lower [] ≡ []
unfolding encode_with
encode_lower-nil = refl

-- the same where the list is mapped first
pub parts-map : {X Y : Type 0} (f : Y → List ℕ) (h : X → Y) (xs : List X) (i : ℕ) (d : X) → i < length xs → flat_map f (map h xs) ≡ (flat_map f (map h (take i xs)) ++ f (h (get_or xs i d))) ++ flat_map f (map h (drop (suc i) xs))
parts-map f h [] i d p = absurd (omega arith)
parts-map f h (x ∷ xs) zero d p = refl
parts-map f h (x ∷ xs) (suc i) d p =
    let below : i < length xs = omega arith in
    ap (λ t. f (h x) ++ t) (parts-map f h xs i d below)
    ∙ sym (append_assoc (f (h x)) (flat_map f (map h (take i xs)) ++ f (h (get_or xs i d))) (flat_map f (map h (drop (suc i) xs))))
    ∙ ap (λ t. t ++ flat_map f (map h (drop (suc i) xs))) (sym (append_assoc (f (h x)) (flat_map f (map h (take i xs))) (f (h (get_or xs i d)))))

-- a line is its first word and the words up to one, then that one after a blank, then the rest
pub line-parts : {X : Type 0} (h : X → List ℕ) (first : List ℕ) (words : List X) (i : ℕ) (d : X) → i < length words → line first (map h words) ≡ ((first ++ flat_map (λ word. 32 ∷ word) (map h (take i words))) ++ (32 ∷ (h (get_or words i d) ++ []))) ++ (flat_map (λ word. 32 ∷ word) (map h (drop (suc i) words)) ++ 10 ∷ [])
line-parts h first words i d p =
    ap (λ t. (first ++ t) ++ 10 ∷ []) (parts-map (λ word. 32 ∷ word) h words i d p)
    ∙ joined first (flat_map (λ word. 32 ∷ word) (map h (take i words))) (h (get_or words i d)) (flat_map (λ word. 32 ∷ word) (map h (drop (suc i) words)))
  where
    joined : (first before word after : List ℕ) → (first ++ ((before ++ 32 ∷ word) ++ after)) ++ 10 ∷ [] ≡ ((first ++ before) ++ 32 ∷ (word ++ [])) ++ (after ++ 10 ∷ [])
    joined first before word after = simp (append_assoc, append-nil)

-- the digits of bytes: those of the first i, then those of the next k, then those of the rest
pub hex-parts : (xs : List ℕ) (i k : ℕ) → encode_lower xs ≡ (encode_lower (take i xs) ++ encode_lower (take k (drop i xs))) ++ encode_lower (drop k (drop i xs))
hex-parts xs i k =
    ap encode_lower (sym (take-append-drop i xs) ∙ ap (λ t. take i xs ++ t) (sym (take-append-drop k (drop i xs))))
    ∙ encode_lower-append (take i xs) (take k (drop i xs) ++ drop k (drop i xs))
    ∙ ap (λ t. encode_lower (take i xs) ++ t) (encode_lower-append (take k (drop i xs)) (drop k (drop i xs)))
    ∙ sym (append_assoc (encode_lower (take i xs)) (encode_lower (take k (drop i xs))) (encode_lower (drop k (drop i xs))))

-- the digits of n bytes more
pub hex-more : (xs : List ℕ) (i n k : ℕ) → k ≡ n → encode_lower (take (i + n) xs) ≡ encode_lower (take i xs) ++ encode_lower (take k (drop i xs))
hex-more xs i n k e =
    rw e (ap encode_lower (take-add i n xs) ∙ encode_lower-append (take i xs) (take n (drop i xs)))

-- a line of a word, a number and digits, as it is written
pub hex-line : (word number digits : List ℕ) → line word (number ∷ digits ∷ []) ≡ ((word ++ 32 ∷ (number ++ 32 ∷ [])) ++ digits) ++ 10 ∷ []
hex-line word number digits =
    (append_assoc word (32 ∷ (number ++ 32 ∷ (digits ++ []))) (10 ∷ [])
    ∙ ap (λ t. word ++ 32 ∷ t) (append_assoc number (32 ∷ (digits ++ [])) (10 ∷ []) ∙ ap (λ t. number ++ 32 ∷ (t ++ 10 ∷ [])) (append-nil digits)))
    ∙ sym (append_assoc (word ++ 32 ∷ (number ++ 32 ∷ [])) digits (10 ∷ [])
    ∙ (append_assoc word (32 ∷ (number ++ 32 ∷ [])) (digits ++ 10 ∷ [])
    ∙ ap (λ t. word ++ 32 ∷ t) (append_assoc number (32 ∷ []) (digits ++ 10 ∷ []))))

-- a numbered text with one more of the list
pub numbered-more : {X : Type 0} (f : ℕ → X → List ℕ) (n : ℕ) (xs : List X) (i : ℕ) (d : X) → i < length xs → numbered_text f n (take (suc i) xs) ≡ numbered_text f n (take i xs) ++ f (n + i) (get_or xs i d)
numbered-more f n [] i d h = absurd (omega arith)
numbered-more f n (x ∷ xs) zero d h = append-nil (f n x) ∙ ap (λ k. f k x) (sym (add-zero n))
numbered-more f n (x ∷ xs) (suc i) d h =
    let below : i < length xs = omega arith in
    let same : (n + 1) + i ≡ n + suc i = omega arith in
    ap (λ t. f n x ++ t) (numbered-more f (n + 1) xs i d below ∙ ap (λ k. numbered_text f (n + 1) (take i xs) ++ f k (get_or xs i d)) same)
    ∙ sym (append_assoc (f n x) (numbered_text f (n + 1) (take i xs)) (f (n + suc i) (get_or xs i d)))

-- a numbered text is that of the first i, then that of the next, then that of the rest
pub numbered-parts : {X : Type 0} (f : ℕ → X → List ℕ) (n : ℕ) (xs : List X) (i : ℕ) (d : X) → i < length xs → numbered_text f n xs ≡ (numbered_text f n (take i xs) ++ f (n + i) (get_or xs i d)) ++ numbered_text f (n + suc i) (drop (suc i) xs)
numbered-parts f n [] i d h = absurd (omega arith)
numbered-parts f n (x ∷ xs) zero d h = ap (λ k. f k x ++ numbered_text f (n + 1) xs) (sym (add-zero n))
numbered-parts f n (x ∷ xs) (suc i) d h =
    let below : i < length xs = omega arith in
    let same : (n + 1) + i ≡ n + suc i = omega arith in
    let next : (n + 1) + suc i ≡ n + suc (suc i) = omega arith in
    let rest : List ℕ = numbered_text f (n + suc (suc i)) (drop (suc i) xs) in
    ap (λ t. f n x ++ t) (numbered-parts f (n + 1) xs i d below
    ∙ (ap (λ k. (numbered_text f (n + 1) (take i xs) ++ f k (get_or xs i d)) ++ numbered_text f ((n + 1) + suc i) (drop (suc i) xs)) same
    ∙ ap (λ k. (numbered_text f (n + 1) (take i xs) ++ f (n + suc i) (get_or xs i d)) ++ numbered_text f k (drop (suc i) xs)) next))
    ∙ (sym (append_assoc (f n x) (numbered_text f (n + 1) (take i xs) ++ f (n + suc i) (get_or xs i d)) rest)
    ∙ ap (λ t. t ++ rest) (sym (append_assoc (f n x) (numbered_text f (n + 1) (take i xs)) (f (n + suc i) (get_or xs i d)))))
