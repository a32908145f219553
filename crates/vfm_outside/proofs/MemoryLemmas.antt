-- Steps of the objects in memory.
use Rattle.std.proofs.Common.{◌≡◌, ◌∙◌, sym, ap, ℕ, ◌+◌, ◌-◌, ◌<◌, min, Some, List, [], ◌++◌, length, take, drop, arith}
use Rattle.std.proofs.lemmas.List.{take-append-drop, drop-drop, drop_all}
use Rattle.vfm_outside.proofs.ToldLemmas.{take-then-take}

-- what is left at a place is what is given there, and then what is left after it
pub left-given : (bytes lent buf : List ℕ) (at n : ℕ) → lent ≡ bytes → take n buf ≡ take n (drop at lent)
    → Some (drop at bytes) ≡ Some (take n buf ++ drop (at + n) bytes)
left-given bytes lent buf at n e given =
    ap Some (sym (take-append-drop n (drop at bytes))
    ∙ ap (λ start. start ++ drop n (drop at bytes)) (sym (given ∙ ap (λ xs. take n (drop at xs)) e))
    ∙ ap (λ back. take n buf ++ back) (drop-drop n at bytes))

-- where nothing was given though something was wanted, nothing is left
pub left-end : (bytes lent : List ℕ) (at n most : ℕ) → lent ≡ bytes → n ≡ min most (length lent - at) → 0 < most
    → n ≡ 0 → drop at bytes ≡ []
left-end bytes lent at n most e number some none = drop_all at bytes (omega (arith, ap length e))

-- what was received is what came before, and then what is given
pub received-given : (bytes lent buf : List ℕ) (at n : ℕ) → lent ≡ bytes → take n buf ≡ take n (drop at lent)
    → Some (take (at + n) bytes) ≡ Some (take at bytes ++ take n buf)
received-given bytes lent buf at n e given =
    ap Some (sym (take-then-take bytes at n) ∙ ap (λ back. take at bytes ++ back) (sym (given ∙ ap (λ xs. take n (drop at xs)) e)))
