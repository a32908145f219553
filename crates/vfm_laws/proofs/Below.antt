-- Tests of the numbers below a bound.
use Rattle.std.proofs.Common.{◌≡◌, ℕ, zero, suc, ◌<◌, ◌≤◌, Bool, true, subst, arith, ⊎_elim}
use Rattle.std.proofs.lemmas.Bool.{and_parts, cases_lt}
use Rattle.vfm_base.specs.Least.{all_below}

-- what all numbers below n pass, each passes
pub all_below_at : (n : ℕ) (test : ℕ → Bool) (k : ℕ) → all_below n test ≡ true → k < n → test k ≡ true
all_below_at zero test k all below = absurd (omega arith)
all_below_at (suc n) test k all below =
    let parts = and_parts (all_below n test) (test n) all in
    ⊎_elim (λ (h : k < n). all_below_at n test k parts.0 h)
    (λ (h : n ≤ k). let same : n ≡ k = omega arith in subst (λ (j : ℕ). test j ≡ true) same parts.1) (cases_lt k n)
