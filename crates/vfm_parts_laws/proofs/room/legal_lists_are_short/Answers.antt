-- By induction over the list.
use Rattle.vfm_parts_laws.proofs.RoomWorlds.{list_short}
use Rattle.vfm_parts_laws.proofs.room.legal_lists_are_short.Goals as goal

pub returns : goal.returns
returns c = list_short
