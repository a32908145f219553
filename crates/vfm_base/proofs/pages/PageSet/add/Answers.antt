-- One bit set adds its page and no other.
use Rattle.std.proofs.Common.{arith}
use Rattle.vfm_base.proofs.NumbersWhere.{IsPageList-pages_where}
use Rattle.vfm_base.proofs.PageWords.{added, added_members}
use Rattle.vfm_base.proofs.pages.PageSet.add.Goals as goal

pub returns-clause-value : goal.returns-clause-value
returns-clause-value c = added c.self.inside.words c.args.self.now c.args.p c.self.view_is (omega (arith, c.self.told))

pub returns-clause-members : goal.returns-clause-members
returns-clause-members c = added_members c.self.inside.words c.args.self.now c.args.p c.self.view_is c.requires (omega (arith, c.self.told))

pub returns-clause-set : goal.returns-clause-set
returns-clause-set c = IsPageList-pages_where _
