-- The words of a path, one more at a time.
use Rattle.std.proofs.Common.{◌≡◌, ℕ, ◌+◌, ◌<◌, List, [], ◌∷◌, ◌++◌, length, take, get_or, map, ap, sym, ◌∙◌, append_assoc}
use Rattle.std.specs.List.{flat_map}
use Rattle.std.proofs.lemmas.Grind.{flat_map-append}
use Rattle.std.proofs.lemmas.List.{take_more, map-append}

-- a first word and the words after it, with one more
pub words-more : {X : Type 0} (h : X → List ℕ) (first : List ℕ) (xs : List X) (i : ℕ) (d : X) → i < length xs → first ++ flat_map (λ word. 32 ∷ word) (map h (take (i + 1) xs)) ≡ (first ++ flat_map (λ word. 32 ∷ word) (map h (take i xs))) ++ (32 ∷ (h (get_or xs i d) ++ []))
words-more h first xs i d p =
    ap (λ t. first ++ flat_map (λ word. 32 ∷ word) t) (ap (map h) (take_more xs i d p) ∙ map-append h (take i xs) (get_or xs i d ∷ []))
    ∙ ap (λ t. first ++ t) (flat_map-append (λ word. 32 ∷ word) (map h (take i xs)) (h (get_or xs i d) ∷ []))
    ∙ sym (append_assoc first (flat_map (λ word. 32 ∷ word) (map h (take i xs))) (32 ∷ (h (get_or xs i d) ++ [])))
