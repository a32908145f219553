-- The marks of the block are gone.
use Rattle.std.proofs.Common.{ℕ, ◌<◌, length, slice_index_or, slice_set, ap, ap₂, sym, subst, ◌∙◌, arith}
use Rattle.std.proofs.lemmas.List.{get_or_default}
use Rattle.vfm_parts.specs.Parts.{Dev, no_dev}
use Rattle.vfm_parts.specs.Fits.{DevFits}
use Rattle.vfm_parts.specs.BlockStep.{read_dev}
use Rattle.vfm_lead.proofs.changes.read_block.Goals as goal

pub returns : goal.returns
returns c =
    let place = c.from.ensures ∙ c.d.view_is in
    let inside : c.args.d < length c.args.devices.now = omega arith in
    let same = ap (λ (i : ℕ). slice_index_or c.args.devices.now i c.index-devices-from.result) place
    ∙ get_or_default c.args.devices.now c.args.d c.index-devices-from.result no_dev inside in
    let fits = subst (λ (dev : Dev). DevFits c.args.desc.now c.args.d dev) (sym same) (c.requires.devices.each c.args.d c.requires.device) in
    ap₂ (λ (i : ℕ) (dev : Dev). slice_set c.args.devices.now i dev) place
    (c.read_block.ensures.read c.args.desc.now c.args.d c.requires.valid c.requires.device fits
    ∙ ap (read_dev c.args.desc.now c.args.d c.args.b) same)
