-- A sender over each link that was taken; the list has room for the others.
use Rattle.std.proofs.Common.{◌≡◌, ◌≤◌, [], false, ◌++◌, length, map, replicate, vec_capacity}
use Rattle.vfm_send.specs.Sends.{has_failed, left, link_of}
use Rattle.vfm_outlets.proofs.channels.with_senders.Given as goal

abbrev pub invariant-loop-link : goal.invariant-loop-link
invariant-loop-link g l = record {
  all : l.yielded ++ l.link-iterator.rest.items ≡ l.fn.links.items;
  links : map link_of l.senders.items ≡ l.yielded;
  left : map left l.senders.items ≡ replicate (length l.yielded) [];
  failed : map has_failed l.senders.items ≡ replicate (length l.yielded) false;
  room : length l.fn.links.items ≤ vec_capacity l.senders;
}
