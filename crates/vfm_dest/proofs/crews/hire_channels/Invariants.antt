-- The channels so far have workers.
use Rattle.std.proofs.Common.{◌≡◌, ◌≤◌, ◌++◌, length, map, vec_capacity}
use Rattle.std.specs.Prelude.{All}
use Rattle.vfm_dest.specs.ChannelWorkers.{link_in, fan_in, expect_in}
use Rattle.vfm_dest.proofs.crews.hire_channels.Given as goal

abbrev pub invariant-loop-link : goal.invariant-loop-link
invariant-loop-link g l = record {
  every : l.yielded ++ l.link-iterator.rest.items ≡ l.fn.links.items;
  number : l.channel ≡ length l.yielded;
  count : length l.workers.items ≡ length l.yielded;
  room : length l.fn.links.items ≤ vec_capacity l.workers;
  links : map link_in l.workers.items ≡ l.yielded;
  fans : map fan_in l.workers.items ++ l.fans.rest.items ≡ l.fn.fans.items;
  expects : All (λ w. expect_in w ≡ l.expect) l.workers.items;
}
