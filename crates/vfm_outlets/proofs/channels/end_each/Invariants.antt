-- The channels before this one are ended, the others are as they were, and the least of those before that failed is known.
use Rattle.std.proofs.Common.{◌≡◌, ℕ, ◌≤◌, length, map, slice_index_or}
use Rattle.vfm_send.specs.declared.sender.Sender.{Sender}
use Rattle.vfm_send.specs.Sends.{has_failed, left, link_of}
use Rattle.vfm_outlets.specs.Carrying.{EachChanged, Ends, FirstFailed, SenderFares}
use Rattle.vfm_outlets.proofs.channels.end_each.Given as goal

abbrev pub invariant-loop-k : goal.invariant-loop-k
invariant-loop-k g l = record {
  failed : FirstFailed l.senders l.k l.least;
  ends : EachChanged (λ (was now : Sender g.row.L.Denot). Ends l.fn.abort l.fn.session l.fn.version (record {
    failed = has_failed now;
    before = g.L.Link.sent (link_of was);
    left = left was;
    now = g.L.Link.sent (link_of now);
    finished = g.L.Link.finished (link_of now);
  })) l.fn.senders l.senders l.k;
  untouched : (j : ℕ) (d : Sender g.row.L.Denot) → l.k ≤ j → slice_index_or l.senders j d ≡ slice_index_or l.fn.senders j d;
  count : length l.senders ≡ length l.fn.senders;
  fares : EachChanged (SenderFares g.L.Link.failed_out) l.fn.senders l.senders l.k;
  received : map (λ s. g.L.Link.received (link_of s)) l.senders ≡ map (λ s. g.L.Link.received (link_of s)) l.fn.senders;
  ended : map (λ s. g.L.Link.ended (link_of s)) l.senders ≡ map (λ s. g.L.Link.ended (link_of s)) l.fn.senders;
  failed_in : map (λ s. g.L.Link.failed_in (link_of s)) l.senders ≡ map (λ s. g.L.Link.failed_in (link_of s)) l.fn.senders;
}
