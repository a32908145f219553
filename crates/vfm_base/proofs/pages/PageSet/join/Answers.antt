-- Words joined bit by bit hold the pages of both sets.
use Rattle.vfm_base.proofs.NumbersWhere.{IsPageList-pages_where}
use Rattle.vfm_base.proofs.PageWords.{joined, joined_members}
use Rattle.vfm_base.proofs.pages.PageSet.join.Goals as goal

pub returns-clause-value : goal.returns-clause-value
returns-clause-value c = joined c.self.inside.words c.other.inside.words _ c.args.self.now c.args.other.now c.self.view_is c.other.view_is c.join_words.ensures

pub returns-clause-members : goal.returns-clause-members
returns-clause-members c = joined_members c.self.inside.words c.other.inside.words _ c.args.self.now c.args.other.now c.self.view_is c.other.view_is c.join_words.ensures

pub returns-clause-set : goal.returns-clause-set
returns-clause-set c = IsPageList-pages_where _
