-- Kind by kind.
use Rattle.vfm_parts_laws.proofs.EntriesFall.{left_falls}
use Rattle.vfm_parts_laws.proofs.RoomWorlds.{world_falls}
use Rattle.vfm_parts_laws.proofs.room.steps_leave_less.Goals as goal

pub returns-clause-parts : goal.returns-clause-parts
returns-clause-parts c = left_falls

pub returns-clause-world : goal.returns-clause-world
returns-clause-world c = world_falls
