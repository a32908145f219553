-- The faults of the links of the two ends.
use Rattle.std.proofs.Common.{◌≡◌, ◌∙◌, sym, ap, List, map, sum, sum_by, arith}
use Rattle.std.proofs.lemmas.Simd.{map-map}
use Rattle.std.proofs.lemmas.List.Sums.{sum-map}
use Rattle.vfm_outside.specs.declared.wires.Ends.{Ends}
use Rattle.vfm_outside.specs.Links.{Told, link_faults, ends_faults}
use Rattle.vfm_outside.specs.Carried.{ends_told, ends_sum}

-- the faults that a row of links reports are the sum of what each reports
told_row : {L : Type 0} (told : L → Told) (links : List L) → sum_by link_faults (map told links) ≡ sum_by (λ link. link_faults (told link)) links
told_row told links =
    sym (sum-map link_faults (map told links))
    ∙ ap sum (map-map link_faults told links)
    ∙ sum-map (λ link. link_faults (told link)) links

-- the faults that all links report are the sum of what each reports
pub told_ends : {L : Type 0} (told : L → Told) (ends : Ends L) → ends_faults (ends_told told ends) ≡ ends_sum (λ link. link_faults (told link)) ends
told_ends told ends = omega (arith, told_row told ends.source.items, told_row told ends.dest.items)
