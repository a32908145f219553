-- What a link has sent is a prefix of what its channel was given.
use Rattle.std.proofs.Common.{◌≡◌, ◌∙◌, refl, sym, ap, ap₂, subst, ℕ, ◌+◌, ◌<◌, ◌≤◌, Option, Some, None, List, [], ◌∷◌, ◌++◌, length, map, take, slice_index_or, arith, append_assoc, length-append}
use Rattle.std.proofs.lemmas.List.{append-nil, append_cancel_left, take-append-le}
use Rattle.std.proofs.Math.Seq.{take-append-add}
use Rattle.vfm_outside.specs.Told.{with_appended, with_appended-nil, with_appended-with_appended}
use Rattle.vfm_send.specs.Sends.{SentPrefix}

-- nothing was sent
pub prefix_none : (told : Option (List ℕ)) (bytes : List ℕ) → SentPrefix told told bytes
prefix_none told bytes = record { count = 0; within = omega arith; sent = sym (with_appended-nil told) }

-- more is given
pub prefix_longer : (start now : Option (List ℕ)) (bytes more : List ℕ) → SentPrefix start now bytes → SentPrefix start now (bytes ++ more)
prefix_longer start now bytes more prefix =
    record {
      count = prefix.count;
      within = omega (arith, prefix.within, length-append bytes more);
      sent = prefix.sent ∙ ap (with_appended start) (sym (take-append-le prefix.count bytes more prefix.within));
    }

some_same : {X : Type 0} (x y : X) → Some x ≡ Some y → x ≡ y
some_same x y same = cc

-- a prefix of what waited and of what came behind it is sent
pub prefix_goes_on : (start before now : Option (List ℕ)) (bytes left more : List ℕ) → SentPrefix start before bytes
    → with_appended before left ≡ with_appended start bytes → SentPrefix before now (left ++ more) → SentPrefix start now (bytes ++ more)
prefix_goes_on None before now bytes left more prefix given then =
    record {
      count = 0;
      within = omega arith;
      sent = then.sent ∙ ap (λ (told : Option (List ℕ)). with_appended told (take then.count (left ++ more))) prefix.sent;
    }
prefix_goes_on (Some start) before now bytes left more prefix given then =
    let first : List ℕ = take prefix.count bytes in
    let whole : first ++ left ≡ bytes =
    append_cancel_left start (first ++ left) bytes
    (sym (append_assoc start first left)
    ∙ some_same ((start ++ first) ++ left) (start ++ bytes)
    (ap (λ (told : Option (List ℕ)). with_appended told left) (sym prefix.sent) ∙ given)) in
    let all : first ++ (left ++ more) ≡ bytes ++ more = sym (append_assoc first left more) ∙ ap (λ (b : List ℕ). b ++ more) whole in
    record {
      count = length first + then.count;
      within = omega (arith, then.within, length-append first (left ++ more), ap (length {A = ℕ}) all);
      sent =
          then.sent
          ∙ ap (λ (told : Option (List ℕ)). with_appended told (take then.count (left ++ more))) prefix.sent
          ∙ ap Some
          (append_assoc start first (take then.count (left ++ more))
          ∙ ap (λ (b : List ℕ). start ++ b) (sym (take-append-add first (left ++ more) then.count) ∙ ap (take (length first + then.count)) all));
    }
