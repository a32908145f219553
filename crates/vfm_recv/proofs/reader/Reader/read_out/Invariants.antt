use Rattle.std.proofs.Common.{◌≡◌, ◌-◌}
use Rattle.vfm_mesh.specs.Rows.{stream_count, fan_rings}
use Rattle.vfm_recv.specs.Intakes.{Standing, IsWaiting}
use Rattle.vfm_recv.proofs.Received.{Came}
use Rattle.vfm_recv.proofs.reader.Reader.read_out.Given as goal

-- what came so far was taken in
abbrev pub invariant-loop-chunk : goal.invariant-loop-chunk
invariant-loop-chunk g l = record {
  read : Came (g.L.Link.received l.initial.self.link) (g.L.Link.received l.self.link) (λ came. Standing l.intake came l.initial.fan l.fan);
  waiting : IsWaiting l.intake;
  expects : l.intake.expect ≡ l.self.expect;
  expect : l.self.expect ≡ l.initial.self.expect;
  channel : l.self.channel ≡ l.initial.self.channel;
  streams : stream_count l.fan ≡ stream_count l.initial.fan;
  rings : fan_rings l.fan ≡ fan_rings l.initial.fan;
  failed_in : g.L.Link.failed_in l.self.link ≡ g.L.Link.failed_in l.initial.self.link;
  failed_out : g.L.Link.failed_out l.self.link ≡ g.L.Link.failed_out l.initial.self.link;
  sent : g.L.Link.sent l.self.link ≡ g.L.Link.sent l.initial.self.link;
  finished : g.L.Link.finished l.self.link ≡ g.L.Link.finished l.initial.self.link;
}

abbrev pub decreases-loop-chunk : goal.decreases-loop-chunk
decreases-loop-chunk g l = 67108865 - l.intake.came
