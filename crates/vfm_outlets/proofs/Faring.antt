-- How channels fare in a call, and over several calls.
use Rattle.std.specs.Prelude.{Result, Ok, Err, OnOk, OnErr, is_err, ◌||◌, ◌⊎◌}
use Rattle.std.proofs.Common.{◌≡◌, ◌∙◌, refl, sym, ap, subst, ℕ, ◌<◌, ◌≤◌, inl, inr, Bool, true, false, Some, None, List, [], ◌∷◌, length, map, slice_index_or, arith, ⊎_elim}
use Rattle.std.proofs.lemmas.Bool.{false≢true}
use Rattle.std.proofs.lemmas.List.{get_or-map, length-map}
use Rattle.vfm_outside.specs.Counts.{Rose}
use Rattle.vfm_send.specs.declared.sender.Sender.{Sender}
use Rattle.vfm_send.specs.Sends.{has_failed, link_of}
use Rattle.vfm_outlets.specs.declared.outlets.Outlets.{Outlets}
use Rattle.vfm_outlets.specs.Carrying.{AllFare, EachChanged, Fares, FirstFailed, SenderFares, all_failed, links_of}

-- ---- one channel

-- a call that sends nothing
pub fares_same : (a : Bool) (x : ℕ) → Fares a a x x
fares_same a x = record { never_falls = omega arith; stays = λ e. e; fails = λ e. inl e; quiet = λ e. refl }

-- a call that sends, by its answer: a channel that had failed is silent, and else it fails only where the count rose
pub fares_of : {T E : Type 0} (a b : Bool) (x y : ℕ) (r : Result T E) → b ≡ (a || is_err r) → x ≤ y → OnOk r (y ≡ x)
    → OnErr r ((a ≡ true) ⊎ Rose x y) → (a ≡ true → y ≡ x) → Fares a b x y
fares_of true b x y r e falls ok fault silent =
    record { never_falls = falls; stays = λ was. e; fails = λ now. inl refl; quiet = λ same. silent refl }
fares_of false b x y (Ok v) e falls ok fault silent =
    record { never_falls = falls; stays = λ was. absurd (false≢true was); fails = λ now. absurd (false≢true (sym e ∙ now)); quiet = λ same. ok }
fares_of false b x y (Err f) e falls ok fault silent =
    record { never_falls = falls; stays = λ was. e; fails = λ now. fault; quiet = λ same. absurd (false≢true (sym same ∙ e)) }

-- two calls are as one
quiet_then : (a b c : Bool) (x y z : ℕ) → (a ≡ true → b ≡ true) → (b ≡ true → c ≡ true) → (b ≡ a → y ≡ x) → (c ≡ b → z ≡ y) → c ≡ a → z ≡ x
quiet_then true true true x y z first second quiet then same = then refl ∙ quiet refl
quiet_then false false false x y z first second quiet then same = then refl ∙ quiet refl
quiet_then true false c x y z first second quiet then same = absurd (false≢true (first refl))
quiet_then true true false x y z first second quiet then same = absurd (false≢true same)
quiet_then false true true x y z first second quiet then same = absurd (false≢true (sym same))
quiet_then false true false x y z first second quiet then same = absurd (false≢true (second refl))
quiet_then false false true x y z first second quiet then same = absurd (false≢true (sym same))

pub fares_then : (a b c : Bool) (x y z : ℕ) → Fares a b x y → Fares b c y z → Fares a c x z
fares_then a b c x y z first second =
    record {
      never_falls = omega (arith, first.never_falls, second.never_falls);
      stays = λ was. second.stays (first.stays was);
      fails = λ now.
          ⊎_elim
          (λ (before : b ≡ true).
          ⊎_elim (λ (was : a ≡ true). inl was)
          (λ (rose : Rose x y). let longer : Rose x z = omega (arith, rose, second.never_falls) in inr longer) (first.fails before))
          (λ (rose : Rose y z). let longer : Rose x z = omega (arith, rose, first.never_falls) in inr longer) (second.fails now);
      quiet = quiet_then a b c x y z first.stays second.stays first.quiet second.quiet;
    }

fares_at : (a a' b b' : Bool) (x x' y y' : ℕ) → a ≡ a' → b ≡ b' → x ≡ x' → y ≡ y' → Fares a b x y → Fares a' b' x' y'
fares_at a a' b b' x x' y y' ea eb ex ey fares =
    subst (λ (t : Bool). Fares t b' x' y') ea
    (subst (λ (t : Bool). Fares a t x' y') eb (subst (λ (n : ℕ). Fares a b n y') ex (subst (λ (n : ℕ). Fares a b x n) ey fares)))

-- ---- all channels

-- one of a list that has some
pub some_of : {X : Type 0} (xs : List X) (k : ℕ) → k < length xs → X
some_of [] k inside = absurd (omega (arith, inside))
some_of (x ∷ xs) k inside = x

-- a list of what is said of each sender, at a place
pub said_at : {L Y : Type 0} (f : Sender L → Y) (senders : List (Sender L)) (k : ℕ) (d : Sender L) (e : Y) → k < length senders
    → slice_index_or (map f senders) k e ≡ f (slice_index_or senders k d)
said_at f senders k d e inside = get_or-map f senders k d e inside

pub each_fares : {L : Type 0} (failed_out : L → ℕ) (before now : List (Sender L)) → length now ≡ length before
    → EachChanged (SenderFares failed_out) before now (length before) → (k : ℕ) (link : L) → k < length before
    → Fares (slice_index_or (map has_failed before) k false) (slice_index_or (map has_failed now) k false)
    (failed_out (slice_index_or (map link_of before) k link)) (failed_out (slice_index_or (map link_of now) k link))
each_fares {L} failed_out before now count each k link inside =
    let d : Sender L = some_of before k inside in
    let there : k < length now = omega (arith, inside, count) in
    fares_at (has_failed (slice_index_or before k d)) (slice_index_or (map has_failed before) k false)
    (has_failed (slice_index_or now k d)) (slice_index_or (map has_failed now) k false)
    (failed_out (link_of (slice_index_or before k d))) (failed_out (slice_index_or (map link_of before) k link))
    (failed_out (link_of (slice_index_or now k d))) (failed_out (slice_index_or (map link_of now) k link))
    (sym (said_at has_failed before k d false inside)) (sym (said_at has_failed now k d false there))
    (ap failed_out (sym (said_at link_of before k d link inside))) (ap failed_out (sym (said_at link_of now k d link there)))
    (each k d inside)

-- a call that keeps the links and their flags has as many channels as before
pub same_count : {L : Type 0} (a b : Outlets L) → links_of b ≡ links_of a → length b.senders.items ≡ length a.senders.items
same_count {L} a b links = sym (length-map b.senders.items link_of) ∙ ap (length {A = L}) links ∙ length-map a.senders.items link_of

-- and sends nothing
pub all_fare_same : {L : Type 0} (failed_out : L → ℕ) (a b : Outlets L) → links_of b ≡ links_of a → all_failed b ≡ all_failed a
    → AllFare failed_out a b
all_fare_same {L} failed_out a b links failed = λ k link inside.
    subst
    (λ (flags : List Bool).
    Fares (slice_index_or (all_failed a) k false) (slice_index_or flags k false)
    (failed_out (slice_index_or (links_of a) k link)) (failed_out (slice_index_or (links_of b) k link))) (sym failed)
    (subst
    (λ (links : List L).
    Fares (slice_index_or (all_failed a) k false) (slice_index_or (all_failed a) k false)
    (failed_out (slice_index_or (links_of a) k link)) (failed_out (slice_index_or links k link))) (sym links)
    (fares_same (slice_index_or (all_failed a) k false) (failed_out (slice_index_or (links_of a) k link))))

-- two calls are as one
pub all_fare_then : {L : Type 0} (failed_out : L → ℕ) (a b c : Outlets L) → length b.senders.items ≡ length a.senders.items
    → AllFare failed_out a b → AllFare failed_out b c → AllFare failed_out a c
all_fare_then {L} failed_out a b c count first second = λ k link inside.
    fares_then (slice_index_or (all_failed a) k false) (slice_index_or (all_failed b) k false) (slice_index_or (all_failed c) k false)
    (failed_out (slice_index_or (links_of a) k link)) (failed_out (slice_index_or (links_of b) k link)) (failed_out (slice_index_or (links_of c) k link))
    (first k link inside) (second k link (omega (arith, inside, count)))

-- ---- the answer, in the words of all flags

-- where a channel is answered, its flag is set
pub first_flag : {L : Type 0} (outlets : Outlets L) (n least : ℕ) → n ≤ length outlets.senders.items
    → FirstFailed outlets.senders.items n (Some least) → (least < n) × (slice_index_or (all_failed outlets) least false ≡ true)
first_flag {L} outlets n least few first =
    let inside : least < length outlets.senders.items = omega (arith, few, first.0) in
    let d : Sender L = some_of outlets.senders.items least inside in
    (first.0, said_at has_failed outlets.senders.items least d false inside ∙ first.1 d)

-- where none is answered, no flag is set
pub no_flag : {L : Type 0} (outlets : Outlets L) (n : ℕ) → n ≤ length outlets.senders.items → FirstFailed outlets.senders.items n None
    → (k : ℕ) → k < n → slice_index_or (all_failed outlets) k false ≡ false
no_flag {L} outlets n few none k below =
    let inside : k < length outlets.senders.items = omega (arith, few, below) in
    let d : Sender L = some_of outlets.senders.items k inside in
    said_at has_failed outlets.senders.items k d false inside ∙ (none k d below).0
