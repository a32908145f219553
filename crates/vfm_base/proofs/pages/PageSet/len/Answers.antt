-- What words hold is a set of pages.
use Rattle.vfm_base.proofs.PageWords.{set_of_words}
use Rattle.vfm_base.proofs.pages.PageSet.len.Goals as goal

pub returns-clause-set : goal.returns-clause-set
returns-clause-set c = set_of_words c.self.inside.words c.args.self.now c.self.view_is
