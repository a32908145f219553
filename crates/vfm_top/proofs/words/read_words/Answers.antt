-- Words that are neither two, three nor four.
use Rattle.std.proofs.Common.{sym}
use Rattle.std.specs.Prelude.{string_bytes}
use Rattle.vfm_top.proofs.Forms.{other_length}
use Rattle.vfm_top.proofs.words.read_words.Goals as goal

pub returns : goal.returns
returns c = sym (other_length string_bytes c.args.words.now c.if-words-eq2.false c.if-words-eq3.false c.if-words-eq4.false)
