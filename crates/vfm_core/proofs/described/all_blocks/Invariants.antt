-- The sum over the devices before this one.
use Rattle.std.proofs.Common.{◌≡◌, ◌≤◌, ◌*◌, ◌+◌, take}
use Rattle.std.specs.List.{sum_by}
use Rattle.vfm_types.specs.declared.desc.DevShape.{DevShape}
use Rattle.vfm_types.specs.Desc.{block_count}
use Rattle.vfm_core.proofs.described.all_blocks.Given as goal

abbrev pub invariant-loop-d : goal.invariant-loop-d
invariant-loop-d l = record { value : l.sum ≡ sum_by (λ (shape : DevShape). block_count shape + 2) (take l.d l.desc.devices); few : l.sum ≤ 1026 * l.d }
