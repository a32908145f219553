-- The least page that never came is what is lacking.
use Rattle.std.proofs.Common.{◌≡◌, Some, None, sym, subst, ◌∙◌}
use Rattle.vfm_load.specs.Stored.{StoredPages, FitsPages, HoldsPages}
use Rattle.vfm_load.proofs.PageLemmas.{least_lacking_page, pages_are_loaded}
use Rattle.vfm_load.proofs.pages.PageStore.finish.Goals as goal

pub returns-in-Some-clause-exact : goal.returns-in-Some-clause-exact
returns-in-Some-clause-exact c D records fits holds =
    let stored : StoredPages = record { pages = c.self.inside.pages.items; missing = c.self.inside.missing } in
    let e : c.args.self ≡ stored = sym c.self.view_is in
    sym (least_lacking_page D records stored (subst (FitsPages D) e fits) (subst (HoldsPages D records) e holds) (Some c.in-Some.least)
    c.in-Some.ensures.found c.in-Some.ensures.least c.in-Some.ensures.none)

pub returns-in-None-clause-exact : goal.returns-in-None-clause-exact
returns-in-None-clause-exact c D records fits holds =
    let stored : StoredPages = record { pages = c.self.inside.pages.items; missing = c.self.inside.missing } in
    let e : c.args.self ≡ stored = sym c.self.view_is in
    sym (least_lacking_page D records stored (subst (FitsPages D) e fits) (subst (HoldsPages D records) e holds) None
    c.in-None.ensures.found c.in-None.ensures.least c.in-None.ensures.none)

pub returns-in-None-clause-loaded : goal.returns-in-None-clause-loaded
returns-in-None-clause-loaded c D records fits holds =
    let stored : StoredPages = record { pages = c.self.inside.pages.items; missing = c.self.inside.missing } in
    let e : c.args.self ≡ stored = sym c.self.view_is in
    c.of.ensures ∙ pages_are_loaded D records stored (subst (FitsPages D) e fits) (subst (HoldsPages D records) e holds) c.in-None.ensures.none
