-- A word's ones are its pages.
use Rattle.std.proofs.Common.{◌≡◌, ℕ, ◌+◌, ◌*◌, length, get_or, refl, sym, ap, ◌∙◌, arith}
use Rattle.std.specs.Int.RustNames.{count_ones}
use Rattle.std.proofs.lemmas.Nat.{ones-le}
use Rattle.vfm_base.specs.PageSet.{numbers_where, page_bit}
use Rattle.vfm_base.proofs.NumbersWhere.{length-numbers_where_le}
use Rattle.vfm_base.proofs.PageWords.{length_more, length_all}
use Rattle.vfm_base.proofs.pages.count_in_words.Goals as goal

pub overflow_add-total : goal.overflow_add-total
overflow_add-total c =
    omega (arith, length-numbers_where_le (page_bit c.args.words.now) 0 (64 * c.loop-word.word-index), ones-le 64 (get_or c.args.words.now c.loop-word.word-index 0) (c.type_inv.words c.loop-word.word-index).fits)

pub loop-word-preserved : goal.loop-word-preserved
loop-word-preserved c =
    let next : 64 * c.loop-word.word-index + 64 ≡ 64 * (c.loop-word.word-index + 1) = omega arith in
    ap (λ (x : ℕ). x + count_ones (get_or c.args.words.now c.loop-word.word-index 0)) c.loop-word.invariant
    ∙ sym (length_more c.args.words.now c.loop-word.word-index 64 refl (c.type_inv.words c.loop-word.word-index).fits)
    ∙ ap (λ (x : ℕ). length (numbers_where (page_bit c.args.words.now) 0 x)) next

pub returns : goal.returns
returns c =
    length_all c.args.words.now (64 * c.loop-word.word-index) c.loop-word.total (omega arith) c.loop-word.invariant
