-- What is given to a sender, and to one of several.
use Rattle.std.specs.Prelude.{Result, Ok, Err, OnOk, OnErr, IsErr, is_err, Bool, true, false, ◌||◌}
use Rattle.std.proofs.lemmas.Bool.{false≢true}
use Rattle.std.proofs.Common.{◌≡◌, ◌∙◌, refl, sym, ap, ap₂, ℕ, ◌<◌, Option, None, List, ◌++◌, length, map, slice_index_or, slice_set}
use Rattle.std.proofs.lemmas.List.{map-set, get_or-map, take_at, take_all}
use Rattle.std.proofs.Common.{arith}
use Rattle.std.proofs.Common.{drop}
use Rattle.std.specs.Vec.{with_items}
use Rattle.std.specs.Prelude.{Vec}
use Rattle.std.proofs.Math.Seq.{map-set_same}
use Rattle.vfm_outside.specs.Told.{with_appended, with_appended-with_appended}
use Rattle.vfm_send.specs.declared.sender.Sender.{Sender}
use Rattle.vfm_send.specs.Sends.{given, left, link_of, SentPrefix}

-- what follows from a fact at Ok, and at an error
pub ok_then : {T E : Type 0} (r : Result T E) (P Q : Type 0) → (P → Q) → OnOk r P → OnOk r Q
ok_then (Ok x) P Q f p = f p
ok_then (Err e) P Q f p = tt

pub err_then : {T E : Type 0} (r : Result T E) (P Q : Type 0) → (P → Q) → OnErr r P → OnErr r Q
err_then (Ok x) P Q f p = tt
err_then (Err e) P Q f p = f p

-- a sender over the same link, with more in its outbox
pub given_more : {L : Type 0} (sent : L → Option (List ℕ)) (old new : Sender L) (bytes : List ℕ) → link_of new ≡ link_of old
    → left new ≡ left old ++ bytes → given sent new ≡ with_appended (given sent old) bytes
given_more sent old new bytes link more =
    ap₂ (λ l (b : List ℕ). with_appended (sent l) b) link more ∙ sym (with_appended-with_appended (sent (link_of old)) (left old) bytes)

pub given_same : {L : Type 0} (sent : L → Option (List ℕ)) (old new : Sender L) → link_of new ≡ link_of old → left new ≡ left old
    → given sent new ≡ given sent old
given_same sent old new link same = ap₂ (λ l (b : List ℕ). with_appended (sent l) b) link same

-- the same of sender k among several
pub all_given_more : {L : Type 0} (sent : L → Option (List ℕ)) (senders : List (Sender L)) (k : ℕ) (new d : Sender L) (bytes : List ℕ)
    → k < length senders → link_of new ≡ link_of (slice_index_or senders k d) → left new ≡ left (slice_index_or senders k d) ++ bytes
    → map (given sent) (slice_set senders k new)
    ≡ slice_set (map (given sent) senders) k (with_appended (slice_index_or (map (given sent) senders) k None) bytes)
all_given_more sent senders k new d bytes inside link more =
    map-set (given sent) senders k new
    ∙ ap (λ (o : Option (List ℕ)). slice_set (map (given sent) senders) k o)
    (given_more sent (slice_index_or senders k d) new bytes link more
    ∙ ap (λ (o : Option (List ℕ)). with_appended o bytes) (sym (get_or-map (given sent) senders k d None inside)))

pub all_given_same : {L : Type 0} (sent : L → Option (List ℕ)) (senders : List (Sender L)) (k : ℕ) (new d : Sender L)
    → link_of new ≡ link_of (slice_index_or senders k d) → left new ≡ left (slice_index_or senders k d)
    → map (given sent) (slice_set senders k new) ≡ map (given sent) senders
all_given_same sent senders k new d link same =
    map-set_same (given sent) senders k new d (given_same sent (slice_index_or senders k d) new link same)

-- a vector whose items were lent, and of which as many came back
pub refilled : {X Z : Type 0} (v : Vec X Z) (items : List X) → length items ≡ length v.items → (with_items v items).items ≡ items
refilled v items same = take_at items (drop (length items) v.items) v.len (same ∙ sym v.ok.0)

-- a call's answer is the sender's flag after it, where a sender that has failed answers an error
pub flag_of : {T E : Type 0} (old now : Bool) (r : Result T E) → now ≡ (old || is_err r) → (old ≡ true → IsErr r) → is_err r ≡ now
flag_of true now (Ok x) e silent = absurd (false≢true (silent refl))
flag_of true now (Err f) e silent = sym e
flag_of false now r e silent = sym e

-- what holds at Ok holds where the answer is no error
pub ok_of : {T E : Type 0} (failed : Bool) (r : Result T E) (P : Type 0) → failed ≡ is_err r → OnOk r P → failed ≡ false → P
ok_of failed (Ok x) P e p fine = p
ok_of failed (Err f) P e p fine = absurd (false≢true (sym fine ∙ e))

-- all of some bytes were sent, or a prefix of them: either way a prefix
pub begun_either : {T E : Type 0} (before now : Option (List ℕ)) (bytes : List ℕ) (r : Result T E)
    → OnOk r (now ≡ with_appended before bytes) → OnErr r (SentPrefix before now bytes) → SentPrefix before now bytes
begun_either before now bytes (Ok x) whole part = record {
  count = length bytes;
  within = omega arith;
  sent = whole ∙ ap (with_appended before) (sym (take_all (length bytes) bytes (omega arith)));
}
begun_either before now bytes (Err e) whole part = part
