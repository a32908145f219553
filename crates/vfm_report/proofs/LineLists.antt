-- Lines and the bytes that they are cut from.
use Rattle.std.proofs.Common.{◌≡◌, ℕ, List, [], ◌∷◌, ◌++◌, true, refl, ap, sym, ◌∙◌, append_assoc, append-nil}
use Rattle.vfm_report.specs.Split.{is_without, split}
use Rattle.vfm_report.specs.LineList.{but_last, last_piece, whole_lines, after_lines, unlined}
use Rattle.vfm_report.proofs.Splits.{split-whole, split-first}
use Rattle.vfm_report.proofs.Joins.{joined, split-some, joined-split}

but_last-more : (x : List ℕ) (ps : List (List ℕ)) → (ps ≡ [] → ⊥) → but_last (x ∷ ps) ≡ x ∷ but_last ps
but_last-more x [] some = absurd (some refl)
but_last-more x (p ∷ ps) some = refl

last-more : (x : List ℕ) (ps : List (List ℕ)) → (ps ≡ [] → ⊥) → last_piece (x ∷ ps) ≡ last_piece ps
last-more x [] some = absurd (some refl)
last-more x (p ∷ ps) some = refl

-- bytes without a line feed have no line
pub whole_lines-none : (bytes : List ℕ) → is_without 10 bytes ≡ true → whole_lines bytes ≡ []
whole_lines-none bytes h = ap but_last (split-whole 10 bytes h)

pub after_lines-none : (bytes : List ℕ) → is_without 10 bytes ≡ true → after_lines bytes ≡ bytes
after_lines-none bytes h = ap last_piece (split-whole 10 bytes h)

-- a line and what stands after it
pub whole_lines-first : (bytes l rest : List ℕ) → is_without 10 l ≡ true → bytes ≡ l ++ 10 ∷ rest → whole_lines bytes ≡ l ∷ whole_lines rest
whole_lines-first bytes l rest h is =
    ap whole_lines is ∙ ap but_last (split-first 10 l rest h) ∙ but_last-more l (split 10 rest) (split-some 10 rest)

pub after_lines-first : (bytes l rest : List ℕ) → is_without 10 l ≡ true → bytes ≡ l ++ 10 ∷ rest → after_lines bytes ≡ after_lines rest
after_lines-first bytes l rest h is =
    ap after_lines is ∙ ap last_piece (split-first 10 l rest h) ∙ last-more l (split 10 rest) (split-some 10 rest)

together : (p : List ℕ) (ps : List (List ℕ)) → joined 10 (p ∷ ps) ≡ unlined (but_last (p ∷ ps)) ++ last_piece (p ∷ ps)
together p [] = append-nil p
together p (q ∷ ps) =
    sym (append_assoc p (10 ∷ []) (joined 10 (q ∷ ps))) ∙ ap (λ (r : List ℕ). (p ++ 10 ∷ []) ++ r) (together q ps)
    ∙ sym (append_assoc (p ++ 10 ∷ []) (unlined (but_last (q ∷ ps))) (last_piece (q ∷ ps)))

-- the bytes are their lines and what stands after them
pub lines-together : (bytes : List ℕ) → bytes ≡ unlined (whole_lines bytes) ++ after_lines bytes
lines-together bytes = sym (joined-split 10 bytes) ∙ by (split 10 bytes) (split-some 10 bytes)
  where
    by : (ps : List (List ℕ)) → (ps ≡ [] → ⊥) → joined 10 ps ≡ unlined (but_last ps) ++ last_piece ps
    by [] some = absurd (some refl)
    by (p ∷ ps) some = together p ps

-- none of these lines has a line feed
abbrev pub are_clean : List (List ℕ) → Type 0
are_clean [] = Unit {0}
are_clean (l ∷ lines) = (is_without 10 l ≡ true) × are_clean lines

-- lines put together have these lines
pub whole_lines-unlined : (lines : List (List ℕ)) (rest : List ℕ) → are_clean lines → is_without 10 rest ≡ true → whole_lines (unlined lines ++ rest) ≡ lines
whole_lines-unlined [] rest h t = whole_lines-none rest t
whole_lines-unlined (l ∷ lines) rest h t =
    whole_lines-first ((l ++ 10 ∷ [] ++ unlined lines) ++ rest) l (unlined lines ++ rest) h.0 (append_assoc (l ++ 10 ∷ []) (unlined lines) rest ∙ append_assoc l (10 ∷ []) (unlined lines ++ rest))
    ∙ ap (λ (ls : List (List ℕ)). l ∷ ls) (whole_lines-unlined lines rest h.1 t)

pub after_lines-unlined : (lines : List (List ℕ)) (rest : List ℕ) → are_clean lines → is_without 10 rest ≡ true → after_lines (unlined lines ++ rest) ≡ rest
after_lines-unlined [] rest h t = after_lines-none rest t
after_lines-unlined (l ∷ lines) rest h t =
    after_lines-first ((l ++ 10 ∷ [] ++ unlined lines) ++ rest) l (unlined lines ++ rest) h.0 (append_assoc (l ++ 10 ∷ []) (unlined lines) rest ∙ append_assoc l (10 ∷ []) (unlined lines ++ rest))
    ∙ after_lines-unlined lines rest h.1 t
