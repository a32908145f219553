use Rattle.std.proofs.Common.{◌∙◌}
use Rattle.std.proofs.Math.Seq.{map-set_same}
use Rattle.vfm_net.specs.TcpEnds.{tcp_told}
use Rattle.vfm_net.proofs.tcp_wires.close_row.Goals as goal

-- src/tcp_wires.rt:98:1
pub loop-link-preserved : goal.loop-link-preserved
loop-link-preserved g c =
    map-set_same tcp_told c.loop-link.links c.loop-link.link-index c.close.new.self c.link-item.result c.close.ensures.told ∙ c.loop-link.invariant
