use Rattle.std.proofs.Common.{rules, arith}
use Rattle.vfm_plain.proofs.Pending.{numbered_more}
use Rattle.vfm_device.proofs.queue.Queue.described.Goals as goal

pub loop-i-preserved : goal.loop-i-preserved
loop-i-preserved c =
    record {
      items = numbered_more _ _ _ _ (search rules) c.loop-i.invariant.items c.in_ok-push.ensures.items;
      count = search rules;
      room = omega (arith, c.push.ensures.capacity, c.loop-i.invariant.room);
    }
