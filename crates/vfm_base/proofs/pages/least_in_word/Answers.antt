-- The trailing zeros of what a shift leaves give the first bit.
use Rattle.vfm_base.proofs.PageWords.{first_bit_found, first_bit_least, no_bit}
use Rattle.vfm_base.proofs.pages.least_in_word.Goals as goal

pub returns-then-rest-eq0-clause-none : goal.returns-then-rest-eq0-clause-none
returns-then-rest-eq0-clause-none c = no_bit c.args.word c.args.from c.if-rest-eq0.true

pub returns-clause-found : goal.returns-clause-found
returns-clause-found c = first_bit_found c.args.word c.args.from c.ranges.word.fits c.if-rest-eq0.false

pub returns-clause-least : goal.returns-clause-least
returns-clause-least c = first_bit_least c.args.word c.args.from c.ranges.word.fits c.if-rest-eq0.false
