-- The counts fit their record, and there is an index for it.
use Rattle.std.proofs.Common.{◌+◌, arith}
use Rattle.vfm_closing.proofs.Room.{index_there}
use Rattle.vfm_closing.proofs.device.put_engine.Goals as goal

pub put-requires-clause-count : goal.put-requires-clause-count
put-requires-clause-count g c κs within =
    index_there g.L.Link.sent c.args.outlets.now (c.from.result + 1) c.requires.room (omega (arith, c.from.ensures, c.requires.stream))
