-- By the kind of the entry.
use Rattle.vfm_plant.proofs.GroupHands.{lead_touched}
use Rattle.vfm_plant.proofs.plant.Plant.turn_group.Goals as goal

pub turn_all-requires-clause-touched : goal.turn_all-requires-clause-touched
turn_all-requires-clause-touched c = λ parts.
    lead_touched c.args.self.now.desc parts c.args.e.now c.requires.entry c.in_default.not-Report c.in_default.not-Block c.in_default.not-Dry c.in_default.not-Copy
