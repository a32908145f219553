-- Cut at n.
use Rattle.vfm_parts.proofs.Sets.{pages_below}
use Rattle.vfm_parts.proofs.page_sets.sets_are_page_sets.Goals as goal

pub returns : goal.returns
returns c = pages_below
