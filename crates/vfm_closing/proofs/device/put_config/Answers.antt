-- The digest has 32 bytes, and there is an index for it.
use Rattle.std.proofs.Common.{arith}
use Rattle.vfm_closing.proofs.Room.{index_there}
use Rattle.vfm_closing.proofs.device.put_config.Goals as goal

pub put-requires-clause-stream : goal.put-requires-clause-stream
put-requires-clause-stream g c κs within = omega (arith, c.requires.stream, c.requires.valid.in_range.count_high)

pub put-requires-clause-count : goal.put-requires-clause-count
put-requires-clause-count g c κs within =
    index_there g.L.Link.sent c.args.outlets.now c.args.stream c.requires.room (omega (arith, c.requires.stream, c.requires.valid.in_range.count_high))
