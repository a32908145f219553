-- A row of new links, one after the other.
use Rattle.std.proofs.Common.{sym, subst, List, [], ◌∷◌, ◌++◌, map}
use Rattle.std.specs.List.{All}
use Rattle.std.proofs.lemmas.List.{map-append}
use Rattle.std.proofs.lemmas.List.Elements.{All-push}
use Rattle.vfm_outside.specs.Links.{Told, IsNew}

-- new links with one more are new
pub all_new_more : {L : Type 0} (told : L → Told) (row : List L) (link : L) → All IsNew (map told row) → IsNew (told link)
    → All IsNew (map told (row ++ link ∷ []))
all_new_more told row link each last = subst (All IsNew) (sym (map-append told row (link ∷ []))) (All-push IsNew (map told row) (told link) each last)
