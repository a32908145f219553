use Rattle.std.specs.Ordering.{nat_cmp}
use Rattle.std.specs.BTreeMap.{get}
use Rattle.vfm_reorder.proofs.Wholes.{open-none, open-past, open-missing}
use Rattle.vfm_reorder.proofs.buffer.ReorderBuf.finish_open.Goals as goal

pub returns-clause-gap : goal.returns-clause-gap
returns-clause-gap c packets after =
    open-none c.args.self packets after c.args.self.above c.requires.closed c.in-None.ensures.none

pub returns-in-Some-first_index-clause-gap : goal.returns-in-Some-first_index-clause-gap
returns-in-Some-first_index-clause-gap c packets after =
    open-past c.args.self packets after c.args.self.above c.requires.closed c.requires.lacking c.in-Some.field-0 c.in-Some.ensures.config c.in-Some.ensures.first
    (get nat_cmp c.take_config.new.held) c.in-Some.ensures.left c.in-Some-first_index.index c.in-Some-first_index.ensures.some.0 c.in-Some-first_index.ensures.some.1

pub returns-in-Some-clause-gap : goal.returns-in-Some-clause-gap
returns-in-Some-clause-gap c packets after =
    open-missing c.args.self packets after c.args.self.above c.requires.closed c.requires.lacking c.in-Some.field-0 c.in-Some.ensures.config c.in-Some.ensures.first
    (get nat_cmp c.take_config.new.held) c.in-Some.ensures.left c.in-None-first_index.ensures.none
