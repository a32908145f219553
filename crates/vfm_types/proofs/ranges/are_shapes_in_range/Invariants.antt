-- The devices before this one are in their ranges.
use Rattle.std.proofs.Common.{ℕ, ◌<◌}
use Rattle.std.specs.Prelude.{slice_index_or}
use Rattle.vfm_types.specs.Desc.{no_shape}
use Rattle.vfm_types.specs.Valid.{ShapeInRange}
use Rattle.vfm_types.proofs.ranges.are_shapes_in_range.Given as goal

abbrev pub invariant-loop-shape : goal.invariant-loop-shape
invariant-loop-shape l = (d : ℕ) → d < l.shape-index → ShapeInRange (slice_index_or l.shapes d no_shape)
