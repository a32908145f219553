-- Links of which channels were read tell of what goes out what they told before.
use Rattle.std.proofs.Common.{◌≡◌, List, [], ◌∷◌, ◌++◌, length, map, ap, ap₂, sym, ◌∙◌, arith}
use Rattle.std.proofs.lemmas.List.{length-append}
use Rattle.vfm_dest.specs.Heards.{OutWords, SendAsBefore}
use Rattle.vfm_dest.proofs.Hearing.{map-more}

-- no links do
pub none-sent : {L : Type 0} (words : OutWords L) (links : List L) → links ≡ [] → SendAsBefore words [] links
none-sent words links none =
    record {
      count = ap length none;
      sent = ap (map words.sent) none;
      finished = ap (map words.finished) none;
      failed_out = ap (map words.failed_out) none;
    }

-- one more does
more-of : {L B : Type 0} (word : L → B) (before now : List L) (was is : L) → map word now ≡ map word before
    → word is ≡ word was
    → map word (now ++ is ∷ []) ≡ map word (before ++ was ∷ [])
more-of {L} {B} word before now was is all one =
    map-more word now is ∙ ap₂ (λ (xs : List B) (x : B). xs ++ x ∷ []) all one ∙ sym (map-more word before was)

pub more-sent : {L : Type 0} (words : OutWords L) (before now : List L) (was is : L) → SendAsBefore words before now
    → words.sent is ≡ words.sent was → words.finished is ≡ words.finished was
    → words.failed_out is ≡ words.failed_out was
    → SendAsBefore words (before ++ was ∷ []) (now ++ is ∷ [])
more-sent words before now was is all sent finished failed_out =
    record {
      count = let more = length-append now (is ∷ []) in let less = length-append before (was ∷ []) in let
          same = all.count in omega (arith, more, less, same);
      sent = more-of words.sent before now was is all.sent sent;
      finished = more-of words.finished before now was is all.finished finished;
      failed_out = more-of words.failed_out before now was is all.failed_out failed_out;
    }
