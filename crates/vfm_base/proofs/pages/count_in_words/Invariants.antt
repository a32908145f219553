-- The total is the number of pages of the words before this one.
use Rattle.std.proofs.Common.{◌≡◌, ◌*◌, length}
use Rattle.vfm_base.specs.PageSet.{page_bit, numbers_where}
use Rattle.vfm_base.proofs.pages.count_in_words.Given as goal

abbrev pub invariant-loop-word : goal.invariant-loop-word
invariant-loop-word l = l.total ≡ length (numbers_where (page_bit l.words) 0 (64 * l.word-index))
