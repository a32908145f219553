-- Three entries a request, ten a device, the passes, and four.
use Rattle.std.proofs.Common.{◌≤◌, subst}
use Rattle.vfm_parts.specs.Parts.{World, parts_in}
use Rattle.vfm_parts.proofs.Worlds.{world_first}
use Rattle.vfm_parts_laws.specs.EntriesLeft.{entries_left, room_of_run}
use Rattle.vfm_parts_laws.proofs.RoomWorlds.{first_room, staged_room}
use Rattle.vfm_parts_laws.proofs.room.room_is_enough.Goals as goal

pub returns-clause-first : goal.returns-clause-first
returns-clause-first c = λ D valid. subst (λ (w : World). entries_left D (parts_in w) ≤ room_of_run D) (world_first D) (first_room D valid)

pub returns-clause-staged : goal.returns-clause-staged
returns-clause-staged c = staged_room
