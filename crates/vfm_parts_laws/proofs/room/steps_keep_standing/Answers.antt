-- Kind by kind.
use Rattle.vfm_parts_laws.proofs.Standing.{step_stands}
use Rattle.vfm_parts_laws.proofs.RoomWorlds.{list_stands, staged_stands, world_stands}
use Rattle.vfm_parts_laws.proofs.room.steps_keep_standing.Goals as goal

pub returns-clause-listed : goal.returns-clause-listed
returns-clause-listed c = list_stands

pub returns-clause-staged : goal.returns-clause-staged
returns-clause-staged c = staged_stands

pub returns-clause-parts : goal.returns-clause-parts
returns-clause-parts c = step_stands

pub returns-clause-world : goal.returns-clause-world
returns-clause-world c = world_stands
