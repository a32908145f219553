-- The words before this one have no bit from the place on.
use Rattle.std.proofs.Common.{◌≡◌, ℕ, ◌*◌, ◌<◌, ◌≤◌, false}
use Rattle.vfm_base.specs.PageSet.{page_bit}
use Rattle.vfm_base.proofs.pages.least_in_words.Given as goal

abbrev pub invariant-loop-k : goal.invariant-loop-k
invariant-loop-k l = (r : ℕ) → l.p ≤ r → r < 64 * l.k → page_bit l.words r ≡ false
