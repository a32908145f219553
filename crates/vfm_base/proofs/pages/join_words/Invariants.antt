-- The words before this one are joined, the others as they were.
use Rattle.std.proofs.Common.{◌≡◌, ℕ, ◌<◌, ◌≤◌, get_or}
use Rattle.std.specs.Int.RustNames.{bit_or}
use Rattle.vfm_base.proofs.pages.join_words.Given as goal

abbrev pub invariant-loop-k : goal.invariant-loop-k
invariant-loop-k l =
    ((j : ℕ) → j < l.k → get_or l.words j 0 ≡ bit_or (get_or l.initial.words j 0) (get_or l.other j 0))
    × ((j : ℕ) → l.k ≤ j → get_or l.words j 0 ≡ get_or l.initial.words j 0)
