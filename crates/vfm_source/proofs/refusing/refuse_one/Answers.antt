-- The link of this channel is changed, and no other.
use Rattle.std.proofs.Common.{sym, subst}
use Rattle.std.proofs.Math.Seq.{map-set_same}
use Rattle.std.proofs.lemmas.List.{get_or-map, length-set, map-set}
use Rattle.vfm_send.specs.Marks.{mark_bytes}
use Rattle.vfm_source.specs.Offers.{Told, told, untold}
use Rattle.vfm_source.specs.Refusals.{IsRefused}
use Rattle.vfm_source.proofs.refusing.refuse_one.Goals as goal

pub returns-clause-refused : goal.returns-clause-refused
returns-clause-refused g c = record {
  link = told g.L.Link.sent g.L.Link.finished g.L.Link.failed_out c.refuse_link.new.link;
  place = map-set (told g.L.Link.sent g.L.Link.finished g.L.Link.failed_out) c.args.links.now c.args.k c.refuse_link.new.link;
  refused =
      subst (λ (was : Told). IsRefused (mark_bytes c.args.mark.now) was (told g.L.Link.sent g.L.Link.finished g.L.Link.failed_out c.refuse_link.new.link) c.refuse_link.result)
      (sym (get_or-map (told g.L.Link.sent g.L.Link.finished g.L.Link.failed_out) c.args.links.now c.args.k c.index-links-k.result untold c.requires.channel))
      c.refuse_link.ensures.refused;
}

pub returns-clause-hear : goal.returns-clause-hear
returns-clause-hear g c = record {
  count = length-set c.args.links.now c.args.k c.refuse_link.new.link;
  failed_in = map-set_same g.L.Link.failed_in c.args.links.now c.args.k c.refuse_link.new.link c.index-links-k.result c.refuse_link.ensures.failed_in;
  received = map-set_same g.L.Link.received c.args.links.now c.args.k c.refuse_link.new.link c.index-links-k.result c.refuse_link.ensures.received;
  ended = map-set_same g.L.Link.ended c.args.links.now c.args.k c.refuse_link.new.link c.index-links-k.result c.refuse_link.ensures.ended;
}
