use Rattle.std.proofs.Common.{◌≡◌, ◌≤◌, All, map, vec_len, vec_capacity}
use Rattle.vfm_outside.specs.Links.{IsNew}
use Rattle.vfm_net.specs.TcpEnds.{tcp_told}
use Rattle.vfm_net.proofs.tcp_wires.channels_of.Given as goal

-- a link for each step that was made, all of them new, and room for the rest
abbrev pub invariant-loop : goal.invariant-loop
invariant-loop g l = (vec_len l.source ≡ l.counter) × (vec_len l.dest ≡ l.counter)
    × (l.channels ≤ vec_capacity l.source) × (l.channels ≤ vec_capacity l.dest)
    × All IsNew (map tcp_told l.source.items) × All IsNew (map tcp_told l.dest.items)
