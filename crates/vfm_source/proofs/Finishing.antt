-- The channels of an offer from its rounds to its end.
use Rattle.std.proofs.Common.{◌≡◌, length, map, ap, sym, ◌∙◌}
use Rattle.std.proofs.lemmas.List.{length-map}
use Rattle.vfm_send.specs.Sends.{link_of}
use Rattle.vfm_outlets.specs.declared.outlets.Outlets.{Outlets}
use Rattle.vfm_outlets.specs.Carrying.{AllFare, all_failed, links_of}
use Rattle.vfm_outlets.proofs.Faring.{all_fare_same, all_fare_then, same_count}
use Rattle.vfm_source.specs.Rounds.{HearAsBefore, Leaves, LinkWords}
use Rattle.vfm_source.proofs.Leaving.{hear_then}

-- how many links there are
link_count : {L : Type 0} (outlets : Outlets L) → length (links_of outlets) ≡ length outlets.senders.items
link_count outlets = length-map outlets.senders.items link_of

-- what a call that ends the channels says of its links
pub record Ended {L : Type 0} (words : LinkWords L) (before now : Outlets L) : Type 0 where
  pub count : length now.senders.items ≡ length before.senders.items
  pub fares : AllFare words.failed_out before now
  pub failed_in : map words.failed_in (links_of now) ≡ map words.failed_in (links_of before)
  pub received : map words.received (links_of now) ≡ map words.received (links_of before)
  pub heard : map words.ended (links_of now) ≡ map words.ended (links_of before)

-- from the rounds on, with records put that leave the links alone, to the end
module _ {L : Type 0} (words : LinkWords L) (first rounds closed last : Outlets L) (leaves : Leaves words first rounds) (links : links_of closed ≡ links_of rounds)
    (failed : all_failed closed ≡ all_failed rounds) (ended : Ended words closed last) where
  count : length closed.senders.items ≡ length first.senders.items
  count = same_count rounds closed links ∙ leaves.count

  pub fares_in_all : AllFare words.failed_out first last
  fares_in_all =
      all_fare_then words.failed_out first closed last count
      (all_fare_then words.failed_out first rounds closed leaves.count leaves.fares (all_fare_same words.failed_out rounds closed links failed)) ended.fares

  pub hear_in_all : HearAsBefore words (links_of first) (links_of last)
  hear_in_all =
      hear_then words (links_of first) (links_of rounds) (links_of last) leaves.hear
      (record {
        count = link_count last ∙ ended.count ∙ sym (link_count closed) ∙ ap length links;
        failed_in = ended.failed_in ∙ ap (map words.failed_in) links;
        received = ended.received ∙ ap (map words.received) links;
        ended = ended.heard ∙ ap (map words.ended) links;
      })
