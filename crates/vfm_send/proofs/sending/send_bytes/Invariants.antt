use Rattle.std.proofs.Common.{◌≡◌, ◌≤◌, ◌-◌, length, take}
use Rattle.vfm_outside.specs.Told.{with_appended}
use Rattle.vfm_send.proofs.sending.send_bytes.Given as goal

abbrev pub invariant-loop-at : goal.invariant-loop-at
invariant-loop-at g l = record {
  in_range : l.at ≤ length l.bytes;
  counted : g.L.Link.failed_out l.link ≡ g.L.Link.failed_out l.initial.link;
  sent : g.L.Link.sent l.link ≡ with_appended (g.L.Link.sent l.initial.link) (take l.at l.bytes);
  finished : g.L.Link.finished l.link ≡ g.L.Link.finished l.initial.link;
  failed_in : g.L.Link.failed_in l.link ≡ g.L.Link.failed_in l.initial.link;
  received : g.L.Link.received l.link ≡ g.L.Link.received l.initial.link;
  ended : g.L.Link.ended l.link ≡ g.L.Link.ended l.initial.link;
}

abbrev pub decreases-loop-at : goal.decreases-loop-at
decreases-loop-at g l = length l.bytes - l.at
