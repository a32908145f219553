-- One bit cleared removes its page and no other.
use Rattle.std.proofs.Common.{arith}
use Rattle.vfm_base.proofs.NumbersWhere.{IsPageList-pages_where}
use Rattle.vfm_base.proofs.PageWords.{removed, removed_members}
use Rattle.vfm_base.proofs.pages.PageSet.remove.Goals as goal

pub returns-clause-value : goal.returns-clause-value
returns-clause-value c = removed c.self.inside.words c.args.self.now c.args.p c.self.view_is (omega (arith, c.self.told))

pub returns-clause-members : goal.returns-clause-members
returns-clause-members c = removed_members c.self.inside.words c.args.self.now c.args.p c.self.view_is (omega (arith, c.self.told))

pub returns-clause-set : goal.returns-clause-set
returns-clause-set c = IsPageList-pages_where _
