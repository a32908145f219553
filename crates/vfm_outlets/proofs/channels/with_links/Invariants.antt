-- The link of each sender that was taken; the list has room for the others.
use Rattle.std.proofs.Common.{◌≡◌, ◌≤◌, ◌++◌, length, map, vec_capacity}
use Rattle.vfm_send.specs.Sends.{link_of}
use Rattle.vfm_outlets.proofs.channels.with_links.Given as goal

abbrev pub invariant-loop-sender : goal.invariant-loop-sender
invariant-loop-sender g l = record {
  all : l.yielded ++ l.sender-iterator.rest.items ≡ l.fn.senders.items;
  links : l.links.items ≡ map link_of l.yielded;
  room : length l.fn.senders.items ≤ vec_capacity l.links;
}
