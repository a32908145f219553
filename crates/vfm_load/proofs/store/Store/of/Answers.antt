-- The BARs of a device have whole blocks.
use Rattle.std.proofs.Common.{◌≡◌, ◌-◌, ◌%◌, sym, subst, arith}
use Rattle.vfm_types.specs.declared.desc.DevShape.{DevShape}
use Rattle.vfm_types.specs.Desc.{bar_bytes, shape_at, no_shape}
use Rattle.vfm_types.proofs.BarSizes.{all_bars}
use Rattle.vfm_load.proofs.store.Store.of.Goals as goal

pub of-requires-2-clause-blocks : goal.of-requires-2-clause-blocks
of-requires-2-clause-blocks c =
    let d = c.args.stream - 1 in
    let whole = (all_bars (shape_at c.args.desc.now d) (c.requires.valid.in_range.devices d (omega arith)).bars).whole in
    subst (λ (shape : DevShape). bar_bytes shape % 64 ≡ 0) (sym (c.at.ensures.value no_shape)) whole
