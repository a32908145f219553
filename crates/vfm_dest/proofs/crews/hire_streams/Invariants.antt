-- The streams so far have workers.
use Rattle.std.proofs.Common.{◌≡◌, ◌≤◌, ◌++◌, false, length, map, vec_capacity}
use Rattle.std.specs.Prelude.{All}
use Rattle.vfm_stream_work.specs.Workers.{funnel_of, intake_of, is_short}
use Rattle.vfm_dest.proofs.crews.hire_streams.Given as goal

abbrev pub invariant-loop-funnel : goal.invariant-loop-funnel
invariant-loop-funnel l = record {
  every : l.yielded ++ l.funnel-iterator.rest.items ≡ l.fn.funnels.items;
  number : l.stream ≡ length l.yielded;
  count : length l.workers.items ≡ length l.yielded;
  room : length l.fn.funnels.items ≤ vec_capacity l.workers;
  funnels : map funnel_of l.workers.items ≡ l.yielded;
  intakes : map intake_of l.workers.items ++ l.intakes.rest.items ≡ l.fn.intakes.items;
  short : All (λ w. is_short w ≡ false) l.workers.items;
}
