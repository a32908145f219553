-- What rounds leave of the links, one after another.
use Rattle.std.proofs.Common.{List, refl, ◌∙◌}
use Rattle.vfm_outlets.specs.declared.outlets.Outlets.{Outlets}
use Rattle.vfm_outlets.specs.Carrying.{links_of}
use Rattle.vfm_outlets.proofs.Faring.{all_fare_same, all_fare_then}
use Rattle.vfm_source.specs.Rounds.{HearAsBefore, Leaves, LinkWords}

pub hear_same : {L : Type 0} (words : LinkWords L) (links : List L) → HearAsBefore words links links
hear_same words links = record { count = refl; failed_in = refl; received = refl; ended = refl }

pub hear_then : {L : Type 0} (words : LinkWords L) (a b c : List L) → HearAsBefore words a b → HearAsBefore words b c → HearAsBefore words a c
hear_then words a b c first second =
    record {
      count = second.count ∙ first.count;
      failed_in = second.failed_in ∙ first.failed_in;
      received = second.received ∙ first.received;
      ended = second.ended ∙ first.ended;
    }

pub leaves_same : {L : Type 0} (words : LinkWords L) (outlets : Outlets L) → Leaves words outlets outlets
leaves_same words outlets =
    record {
      count = refl;
      fares = all_fare_same words.failed_out outlets outlets refl refl;
      hear = hear_same words (links_of outlets);
    }

pub leaves_then : {L : Type 0} (words : LinkWords L) (a b c : Outlets L) → Leaves words a b → Leaves words b c → Leaves words a c
leaves_then words a b c first second =
    record {
      count = second.count ∙ first.count;
      fares = all_fare_then words.failed_out a b c first.count first.fares second.fares;
      hear = hear_then words (links_of a) (links_of b) (links_of c) first.hear second.hear;
    }
