use Rattle.std.specs.Ordering.{nat_cmp}
use Rattle.std.specs.BTreeMap.{get, btree_map_len}
use Rattle.vfm_reorder.proofs.Taken.{TakenOut}
use Rattle.vfm_reorder.proofs.held.take_config.Given as goal

-- the packets with the least indexes are taken out, none of them a config packet
abbrev pub invariant-loop-index : goal.invariant-loop-index
invariant-loop-index l = TakenOut (get nat_cmp l.initial.held) (get nat_cmp l.held)

abbrev pub decreases-loop-index : goal.decreases-loop-index
decreases-loop-index l = btree_map_len l.held
