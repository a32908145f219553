use Rattle.std.proofs.Common.{◌≡◌, ◌∙◌, refl, sym, ap, subst, ℕ, ◌<◌, Option, None, List, [], length, map, replicate, slice_index_or, arith}
use Rattle.std.proofs.lemmas.List.{length-map, get_or-map, get_or-replicate}
use Rattle.vfm_send.specs.Sends.{link_of, SentPrefix}
use Rattle.vfm_outlets.proofs.Begun.{no_shares, given_none}
use Rattle.vfm_outlets.proofs.Prefixes.{prefix_none}
use Rattle.vfm_outlets.proofs.outlets.Outlets.of.Goals as goal

pub returns-clause-carries : goal.returns-clause-carries
returns-clause-carries g c =
    let many : length c.with_senders.result.items ≡ length c.args.links.items =
    sym (length-map c.with_senders.result.items link_of) ∙ ap length c.with_senders.ensures.links in
    record {
      channels = many ∙ c.requires.channels;
      version = refl;
      session = refl;
      given =
          given_none g.L.Link.sent c.with_senders.result.items
          (c.with_senders.ensures.left ∙ ap (λ (n : ℕ). replicate n []) (sym many))
          ∙ ap (map g.L.Link.sent) c.with_senders.ensures.links
          ∙ sym (no_shares c.args.desc.now 0 (map g.L.Link.sent c.args.links.items));
      begun = λ k link inside.
          let there : k < length c.args.links.items = omega (arith, inside, c.requires.channels) in
          subst
          (λ (ls : List g.row.L.Denot).
          SentPrefix (slice_index_or (map g.L.Link.sent c.args.links.items) k None) (g.L.Link.sent (slice_index_or ls k link)) [])
          (sym c.with_senders.ensures.links)
          (subst (λ (told : Option (List ℕ)). SentPrefix told (g.L.Link.sent (slice_index_or c.args.links.items k link)) [])
          (sym (get_or-map g.L.Link.sent c.args.links.items k link None there))
          (prefix_none (g.L.Link.sent (slice_index_or c.args.links.items k link)) []));
      counts = λ s within. get_or-replicate 9 s 0 0 (omega (arith, within));
    }
