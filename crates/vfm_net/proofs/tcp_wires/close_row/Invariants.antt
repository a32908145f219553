use Rattle.std.proofs.Common.{◌≡◌, map}
use Rattle.vfm_net.specs.TcpEnds.{tcp_told}
use Rattle.vfm_net.proofs.tcp_wires.close_row.Given as goal

-- what the links report stays
abbrev pub invariant-loop-link : goal.invariant-loop-link
invariant-loop-link g l = map tcp_told l.links ≡ map tcp_told l.fn.links
