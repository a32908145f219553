-- The links before this one were told, the others are as they were, and the least of those before that failed is known.
use Rattle.std.proofs.Common.{◌≡◌, ℕ, ◌≤◌, map, slice_index_or}
use Rattle.vfm_send.specs.Marks.{mark_bytes}
use Rattle.vfm_source.specs.Offers.{told, untold}
use Rattle.vfm_source.specs.Refusals.{AllRefused, IsFirstRefusal}
use Rattle.vfm_source.specs.Rounds.{HearAsBefore, words}
use Rattle.vfm_source.proofs.refusing.refuse_each.Given as goal

abbrev pub invariant-loop-k : goal.invariant-loop-k
invariant-loop-k g l = record {
  refused : AllRefused (mark_bytes l.mark) l.k (map (told g.L.Link.sent g.L.Link.finished g.L.Link.failed_out) l.fn.links)
      (map (told g.L.Link.sent g.L.Link.finished g.L.Link.failed_out) l.links);
  least : IsFirstRefusal l.k (map (told g.L.Link.sent g.L.Link.finished g.L.Link.failed_out) l.fn.links)
      (map (told g.L.Link.sent g.L.Link.finished g.L.Link.failed_out) l.links) l.least;
  untouched : (j : ℕ) → l.k ≤ j → slice_index_or (map (told g.L.Link.sent g.L.Link.finished g.L.Link.failed_out) l.links) j untold
      ≡ slice_index_or (map (told g.L.Link.sent g.L.Link.finished g.L.Link.failed_out) l.fn.links) j untold;
  hear : HearAsBefore (words g.L.Link.failed_out g.L.Link.failed_in g.L.Link.received g.L.Link.ended) l.fn.links l.links;
}
