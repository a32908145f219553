-- The bits below a number are the pages below it.
use Rattle.vfm_base.proofs.NumbersWhere.{IsPageList-pages_where}
use Rattle.vfm_base.proofs.PageWords.{full_list, full_members}
use Rattle.vfm_base.proofs.pages.PageSet.full.Goals as goal

pub returns-clause-list : goal.returns-clause-list
returns-clause-list c = full_list c.full_words.result c.args.pages c.requires c.full_words.ensures

pub returns-clause-members : goal.returns-clause-members
returns-clause-members c = full_members c.full_words.result c.args.pages c.requires c.full_words.ensures

pub returns-clause-set : goal.returns-clause-set
returns-clause-set c = IsPageList-pages_where _
