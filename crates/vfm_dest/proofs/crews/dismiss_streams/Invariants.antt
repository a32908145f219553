-- The workers so far are taken apart.
use Rattle.std.proofs.Common.{◌≡◌, ◌≤◌, ◌++◌, false, length, map, vec_capacity}
use Rattle.std.specs.Prelude.{All}
use Rattle.vfm_stream_work.specs.Workers.{funnel_of, intake_of, is_short}
use Rattle.vfm_dest.proofs.crews.dismiss_streams.Given as goal

abbrev pub invariant-loop-worker : goal.invariant-loop-worker
invariant-loop-worker l = record {
  every : l.yielded ++ l.worker-iterator.rest.items ≡ l.fn.workers.items;
  funnels : l.all.funnels.items ≡ map funnel_of l.yielded;
  intakes : l.all.intakes.items ≡ map intake_of l.yielded;
  short : l.all.is_short ≡ false → All (λ w. is_short w ≡ false) l.yielded;
  funnels_room : length l.fn.workers.items ≤ vec_capacity l.all.funnels;
  intakes_room : length l.fn.workers.items ≤ vec_capacity l.all.intakes;
}
