-- Low ones are the pages below a number.
use Rattle.std.proofs.Common.{◌/◌, arith}
use Rattle.vfm_base.proofs.PageWords.{page_bit_ones}
use Rattle.vfm_base.proofs.pages.full_words.Goals as goal

pub returns : goal.returns
returns c = λ q h. page_bit_ones c.loop-k.words c.args.pages q (c.loop-k.invariant.1 (q / 64) (omega arith))
