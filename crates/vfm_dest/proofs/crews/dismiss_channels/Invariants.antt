-- The workers so far are taken apart.
use Rattle.std.proofs.Common.{◌≡◌, ◌≤◌, ◌++◌, length, map, vec_capacity}
use Rattle.vfm_dest.specs.ChannelWorkers.{link_in, fan_in, end_in}
use Rattle.vfm_dest.proofs.crews.dismiss_channels.Given as goal

abbrev pub invariant-loop-worker : goal.invariant-loop-worker
invariant-loop-worker g l = record {
  every : l.yielded ++ l.worker-iterator.rest.items ≡ l.fn.workers.items;
  links : l.all.links.items ≡ map link_in l.yielded;
  fans : l.all.fans.items ≡ map fan_in l.yielded;
  ends : l.all.ends.items ≡ map end_in l.yielded;
  links_room : length l.fn.workers.items ≤ vec_capacity l.all.links;
  fans_room : length l.fn.workers.items ≤ vec_capacity l.all.fans;
  ends_room : length l.fn.workers.items ≤ vec_capacity l.all.ends;
}
