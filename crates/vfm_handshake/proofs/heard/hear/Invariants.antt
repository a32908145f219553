use Rattle.std.proofs.Common.{◌≡◌, ◌≤◌, ◌-◌, length, take}
use Rattle.vfm_outside.specs.Told.{with_appended}
use Rattle.vfm_handshake.proofs.heard.hear.Given as goal

abbrev pub invariant-loop-len : goal.invariant-loop-len
invariant-loop-len g l = record {
  most : l.len ≤ 44;
  size : length l.bytes ≡ 44;
  came : g.L.Link.received l.control ≡ with_appended (g.L.Link.received l.initial.control) (take l.len l.bytes);
  counted : g.L.Link.failed_in l.control ≡ g.L.Link.failed_in l.initial.control;
  sent : g.L.Link.sent l.control ≡ g.L.Link.sent l.initial.control;
  finished : g.L.Link.finished l.control ≡ g.L.Link.finished l.initial.control;
  ended : g.L.Link.ended l.control ≡ g.L.Link.ended l.initial.control;
  failed_out : g.L.Link.failed_out l.control ≡ g.L.Link.failed_out l.initial.control;
}

abbrev pub decreases-loop-len : goal.decreases-loop-len
decreases-loop-len g l = 44 - l.len
