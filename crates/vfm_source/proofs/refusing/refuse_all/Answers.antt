-- As many links come back as were lent, and the packet is the one that says that the source gives up.
use Rattle.std.proofs.Common.{◌≡◌, ℕ, List, length, map, ap, sym, subst, ◌∙◌}
use Rattle.std.specs.Vec.{with_items}
use Rattle.vfm_outlets.proofs.Given.{refilled}
use Rattle.vfm_send.specs.Marks.{mark_bytes}
use Rattle.vfm_source.specs.Offers.{told}
use Rattle.vfm_source.specs.Refusals.{AllRefused}
use Rattle.vfm_source.proofs.refusing.refuse_all.Goals as goal

pub returns-clause-refused : goal.returns-clause-refused
returns-clause-refused g c =
    let L = g.row.L.Denot in
    let tell = told g.L.Link.sent g.L.Link.finished g.L.Link.failed_out in
    let channels = c.args.desc.now.channels in
    let news = c.refuse_each.new.links in
    let items : (with_items c.args.links news).items ≡ news =
    refilled c.args.links news (c.refuse_each.ensures.hear.count ∙ ap length c.deref_mut.ensures.value) in
    subst (λ (bytes : List ℕ). AllRefused bytes channels (map tell c.args.links.items) (map tell (with_items c.args.links news).items)) c.of-mark.ensures
    (subst (λ (links : List L). AllRefused (mark_bytes c.of-mark.result) channels (map tell c.args.links.items) (map tell links)) (sym items)
    (subst (λ (n : ℕ). AllRefused (mark_bytes c.of-mark.result) n (map tell c.args.links.items) (map tell news)) c.requires.channels
    (subst (λ (links : List L). AllRefused (mark_bytes c.of-mark.result) (length links) (map tell links) (map tell news)) c.deref_mut.ensures.value
    c.refuse_each.ensures.refused)))
