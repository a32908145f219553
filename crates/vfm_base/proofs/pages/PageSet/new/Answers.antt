-- Words of zeros hold no page.
use Rattle.std.proofs.Common.{replicate}
use Rattle.vfm_base.specs.PageSet.{page_bit}
use Rattle.vfm_base.proofs.NumbersWhere.{IsPageList-pages_where}
use Rattle.vfm_base.proofs.PageWords.{no_pages}
use Rattle.vfm_base.proofs.pages.PageSet.new.Goals as goal

pub returns-clause-none : goal.returns-clause-none
returns-clause-none c = no_pages

pub returns-clause-set : goal.returns-clause-set
returns-clause-set c = IsPageList-pages_where (page_bit (replicate 16 0))
