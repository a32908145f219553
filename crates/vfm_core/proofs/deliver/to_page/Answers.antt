-- The device and the page are set, or put back as they were.
use Rattle.std.proofs.Common.{ℕ, ◌<◌, List, [], length, slice_set, ap, subst, ◌∙◌, arith}
use Rattle.std.proofs.lemmas.List.{get_or_default, set-get_or}
use Rattle.vfm_parts.specs.Parts.{Dev}
use Rattle.vfm_parts.specs.Fits.{PageFits}
use Rattle.vfm_core.proofs.Outcomes.{then_err}
use Rattle.vfm_core.proofs.deliver.to_page.Goals as goal

pub step_to_page-requires-clause-page_fits : goal.step_to_page-requires-clause-page_fits
step_to_page-requires-clause-page_fits c =
    let pages = c.requires.pages.count in
    let inside : c.args.p < length c.args.pages.now = omega arith in
    subst (λ (bytes : List ℕ). PageFits c.args.desc.now bytes)
    (get_or_default c.args.pages.now c.args.p [] c.index-pages-p.result inside) (c.requires.pages.each c.args.p c.requires.page)

pub returns-clause-same : goal.returns-clause-same
returns-clause-same c =
    then_err c.step_to_page.result
    (λ same. (
      ap (λ (dev : Dev). slice_set c.args.devices.now c.from.result dev) same.0 ∙ set-get_or c.args.devices.now c.from.result c.index-devices-from.result,
      ap (λ (bytes : List ℕ). slice_set c.args.pages.now c.args.p bytes) same.1 ∙ set-get_or c.args.pages.now c.args.p c.index-pages-p.result,
    ))
    c.step_to_page.ensures.same
