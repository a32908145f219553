-- What a copied page and a report make of the coordinator's part, with its sets as code keeps them.
use Rattle.std.proofs.Common.{◌≡◌, ℕ, ◌==◌, ◌&&◌, ◌||◌, not, true, List, slice_set, ap}
use Rattle.vfm_base.specs.PageSet.{contains_page, pages_where}
use Rattle.vfm_types.specs.declared.desc.Desc.{Desc}
use Rattle.vfm_types.specs.Valid.{IsValid}
use Rattle.vfm_parts.specs.Parts.{Lead}
use Rattle.vfm_parts.specs.Fits.{IsSetBelow, LeadFits}
use Rattle.vfm_parts.specs.CopyStep.{copied_lead}
use Rattle.vfm_parts.specs.ReportStep.{reported_lead}
use Rattle.vfm_lead.proofs.Sets.{few_pages, without_one, both}

pub copied : (D : Desc) (p : ℕ) (lead : Lead) → IsValid D → LeadFits D lead
    → record lead { left = pages_where (λ q. contains_page lead.left q && not (q == p)) } ≡ copied_lead D p lead
copied D p lead valid fits =
    ap (λ (left : List ℕ). record lead { left = left }) (without_one D.pages lead.left p (few_pages D valid) fits.left)

pub reported : (D : Desc) (d : ℕ) (marks : List ℕ) (lead : Lead) → IsValid D → LeadFits D lead → IsSetBelow D.pages marks
    → record lead { gathered = pages_where (λ q. contains_page lead.gathered q || contains_page marks q); reported = slice_set lead.reported d true }
    ≡ reported_lead D d marks lead
reported D d marks lead valid fits are =
    ap (λ (gathered : List ℕ). record lead { gathered = gathered; reported = slice_set lead.reported d true })
    (both D.pages lead.gathered marks (few_pages D valid) fits.gathered are)
