-- Kind by kind.
use Rattle.vfm_parts.proofs.Worlds.{world_after}
use Rattle.vfm_parts.proofs.local.effects_are_local.Goals as goal

pub returns : goal.returns
returns c = world_after
