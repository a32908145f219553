-- The sizes so far are taken in.
use Rattle.std.proofs.Common.{take}
use Rattle.std.specs.List.{flat_map}
use Rattle.vfm_record.specs.Hashing.{TookIn}
use Rattle.vfm_record.specs.Shape.{plus}
use Rattle.vfm_record.proofs.shape.put_more.Given as goal

abbrev pub invariant-loop-size : goal.invariant-loop-size
invariant-loop-size l = TookIn l.fn.hasher l.hasher (flat_map plus (take l.size-index l.sizes))
