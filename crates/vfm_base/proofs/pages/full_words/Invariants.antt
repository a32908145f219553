-- Each word before this one has the ones that are due.
use Rattle.std.proofs.Common.{◌≡◌, ℕ, ◌*◌, ◌-◌, ◌^◌, ◌<◌, min, get_or, length}
use Rattle.vfm_base.proofs.pages.full_words.Given as goal

abbrev pub invariant-loop-k : goal.invariant-loop-k
invariant-loop-k l =
    (length l.words ≡ 16) × ((j : ℕ) → j < l.k → get_or l.words j 0 ≡ 2 ^ (min (l.pages - 64 * j) 64) - 1)
