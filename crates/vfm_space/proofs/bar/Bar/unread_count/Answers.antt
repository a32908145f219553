use Rattle.vfm_space.proofs.Marks.{few_pages}
use Rattle.vfm_space.proofs.bar.Bar.unread_count.Goals as goal

-- src/bar.rt
pub returns-clause-most : goal.returns-clause-most
returns-clause-most c = rw c.len.ensures.value (few_pages _ c.len.ensures.set)
