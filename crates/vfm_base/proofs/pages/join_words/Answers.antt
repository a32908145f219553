-- The words joined one by one.
use Rattle.std.proofs.Common.{arith}
use Rattle.vfm_base.proofs.PageWords.{page_bit_join_all}
use Rattle.vfm_base.proofs.pages.join_words.Goals as goal

pub returns : goal.returns
returns c = page_bit_join_all c.args.words.now c.args.other.now c.loop-k.words c.loop-k.k (omega (arith, c.told-words)) (omega (arith, c.told-other)) c.loop-k.invariant.0 c.loop-k.invariant.1
