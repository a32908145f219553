-- The bit of a page says whether the set has it.
use Rattle.vfm_base.proofs.PageWords.{bit_of_page, set_of_words}
use Rattle.vfm_base.proofs.pages.PageSet.has.Goals as goal

pub returns-clause-value : goal.returns-clause-value
returns-clause-value c = bit_of_page c.self.inside.words c.args.self.now c.args.p c.self.view_is c.requires

pub returns-clause-set : goal.returns-clause-set
returns-clause-set c = set_of_words c.self.inside.words c.args.self.now c.self.view_is
