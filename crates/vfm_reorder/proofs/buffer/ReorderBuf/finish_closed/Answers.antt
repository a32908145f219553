use Rattle.vfm_reorder.proofs.Wholes.{closed-past, closed-whole, closed-count}
use Rattle.vfm_reorder.proofs.buffer.ReorderBuf.finish_closed.Goals as goal

pub returns-in-Some-clause-gap : goal.returns-in-Some-clause-gap
returns-in-Some-clause-gap c packets after =
    closed-past c.args.self packets after c.args.self.above c.requires (c.args.self.begun c.requires) c.in-Some.index c.in-Some.ensures.some.0 c.in-Some.ensures.some.1

pub returns-clause-gap : goal.returns-clause-gap
returns-clause-gap c packets after =
    closed-whole c.args.self packets after c.args.self.above c.requires (c.args.self.begun c.requires) c.in-None.ensures.none

pub returns-clause-count : goal.returns-clause-count
returns-clause-count c packets after =
    closed-count c.args.self packets after c.args.self.above c.requires (c.args.self.begun c.requires) c.in-None.ensures.none
