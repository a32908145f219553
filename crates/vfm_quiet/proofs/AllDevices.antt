-- Whether each number below a bound passes a test, from what a loop over them has found.
use Rattle.std.proofs.Common.{◌≡◌, ℕ, zero, suc, ◌<◌, ◌≤◌, Bool, true, false, ◌&&◌, refl, ap, ◌∙◌, subst, arith, ⊎_elim}
use Rattle.std.proofs.lemmas.Bool.{and_left, and_right, cases_lt}
use Rattle.vfm_base.specs.Least.{all_below}

-- each number below n passes
pub all_pass : (n : ℕ) (test : ℕ → Bool) → ((k : ℕ) → k < n → test k ≡ true) → all_below n test ≡ true
all_pass zero test passes = refl
all_pass (suc n) test passes =
    ap (λ (b : Bool). b && test n) (all_pass n test (λ k low. passes k (omega arith))) ∙ passes n (omega arith)

-- one number below n doesn't pass
pub one_fails : (n d : ℕ) (test : ℕ → Bool) → d < n → test d ≡ false → all_below n test ≡ false
one_fails zero d test below fails = absurd (omega arith)
one_fails (suc n) d test below fails =
    ⊎_elim
    (λ (h : d < n). and_left (all_below n test) (test n) (one_fails n d test h fails))
    (λ (h : n ≤ d). let same : d ≡ n = omega arith in and_right (all_below n test) (test n) (subst (λ (j : ℕ). test j ≡ false) same fails))
    (cases_lt d n)
