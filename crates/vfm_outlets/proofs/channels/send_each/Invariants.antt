-- The channels before this one are sent, the others are as they were, and the least of those before that failed is known.
use Rattle.std.proofs.Common.{◌≡◌, ℕ, ◌≤◌, length, map, slice_index_or}
use Rattle.vfm_send.specs.declared.sender.Sender.{Sender}
use Rattle.vfm_send.specs.Sends.{given, left, link_of, SentPrefix}
use Rattle.vfm_outlets.specs.Carrying.{EachChanged, FirstFailed, SenderFares}
use Rattle.vfm_outlets.proofs.channels.send_each.Given as goal

abbrev pub invariant-loop-k : goal.invariant-loop-k
invariant-loop-k g l = record {
  failed : FirstFailed l.senders l.k l.least;
  given : map (given g.L.Link.sent) l.senders ≡ map (given g.L.Link.sent) l.fn.senders;
  count : length l.senders ≡ length l.fn.senders;
  fares : EachChanged (SenderFares g.L.Link.failed_out) l.fn.senders l.senders l.k;
  prefix : EachChanged (λ (was now : Sender g.row.L.Denot). SentPrefix (g.L.Link.sent (link_of was)) (g.L.Link.sent (link_of now)) (left was))
      l.fn.senders l.senders l.k;
  untouched : (j : ℕ) (d : Sender g.row.L.Denot) → l.k ≤ j → slice_index_or l.senders j d ≡ slice_index_or l.fn.senders j d;
  received : map (λ s. g.L.Link.received (link_of s)) l.senders ≡ map (λ s. g.L.Link.received (link_of s)) l.fn.senders;
  finished : map (λ s. g.L.Link.finished (link_of s)) l.senders ≡ map (λ s. g.L.Link.finished (link_of s)) l.fn.senders;
  ended : map (λ s. g.L.Link.ended (link_of s)) l.senders ≡ map (λ s. g.L.Link.ended (link_of s)) l.fn.senders;
  failed_in : map (λ s. g.L.Link.failed_in (link_of s)) l.senders ≡ map (λ s. g.L.Link.failed_in (link_of s)) l.fn.senders;
}
