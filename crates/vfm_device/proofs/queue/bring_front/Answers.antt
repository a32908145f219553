use Rattle.std.proofs.Common.{◌+◌, ◌-◌, arith}
use Rattle.vfm_plain.proofs.Pending.{front_brought}
use Rattle.vfm_device.proofs.queue.bring_front.Goals as goal

pub returns-clause-rest : goal.returns-clause-rest
returns-clause-rest c =
    front_brought c.args.items.now c.rotate_right.new.self c.args.start c.args.k (c.args.start + c.args.k + 1 - c.args.start) (omega arith) (omega arith) c.rotate_right.ensures.after
