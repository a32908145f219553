-- Part by part.
use Rattle.vfm_parts.proofs.Worlds.{world_first}
use Rattle.vfm_parts.proofs.local.parts_begin.Goals as goal

pub returns : goal.returns
returns c = world_first
