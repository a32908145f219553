-- Link by link.
use Rattle.vfm_move.proofs.Cases.{lines_once}
use Rattle.vfm_move.proofs.laws.links_tell_one_thing.Goals as goal

pub returns : goal.returns
returns c = lines_once
