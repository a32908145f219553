-- The links over TCP of the two ends, and what they report: they report no bytes.
use Rattle.std.specs.Prelude.{ℕ, Option, Some, None}
use Rattle.vfm_outside.specs.declared.wires.Ends.{Ends}
use Rattle.vfm_outside.specs.Links.{Told, ToldEnds, ends_faults}
use Rattle.vfm_outside.specs.Carried.{ends_told}
use Rattle.vfm_net.specs.declared.tcp_link.TcpLink.{TcpLink}

-- what a link over TCP reports
abbrev pub tcp_told : {S : Type 0} → TcpLink S → Told
tcp_told link = record {
  ended = link.ended;
  failed_out = link.failed_out;
  failed_in = link.failed_in;
  sent = None;
  received = None;
}

-- what the links over TCP of the two ends report
abbrev pub tcp_ends : {S : Type 0} → Ends (TcpLink S) → ToldEnds
tcp_ends ends = ends_told tcp_told ends

-- the faults of the links that are held, if there are any
abbrev pub held_tcp_faults : {S : Type 0} → Option (Ends (TcpLink S)) → ℕ
held_tcp_faults None = 0
held_tcp_faults (Some ends) = ends_faults (tcp_ends ends)
