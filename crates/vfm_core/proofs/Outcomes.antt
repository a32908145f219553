-- What holds at each answer of a step.
use Rattle.std.proofs.Common.{Result, Ok, Err}
use Rattle.std.specs.Result.{OnOk, OnErr, MatchResult}

-- two facts at Ok give a third
pub at_ok : {T E P Q R : Type 0} (r : Result T E) → (P → Q → R) → OnOk r P → OnOk r Q → OnOk r R
at_ok (Ok x) f p q = f p q
at_ok (Err e) f p q = tt

-- and at Err
pub at_err : {T E P Q R : Type 0} (r : Result T E) → (P → Q → R) → OnErr r P → OnErr r Q → OnErr r R
at_err (Ok x) f p q = tt
at_err (Err e) f p q = f p q

-- one fact gives another
pub then_ok : {T E P Q : Type 0} (r : Result T E) → (P → Q) → OnOk r P → OnOk r Q
then_ok (Ok x) f p = f p
then_ok (Err e) f p = tt

pub then_err : {T E P Q : Type 0} (r : Result T E) → (P → Q) → OnErr r P → OnErr r Q
then_err (Ok x) f p = tt
then_err (Err e) f p = f p

-- what is matched at Ok
pub matched_ok : {T E : Type 0} (P : Type 0) (Q : E → Type 0) (r : Result T E) → MatchResult r (λ x. P) Q → OnOk r P
matched_ok P Q (Ok x) p = p
matched_ok P Q (Err e) q = tt

-- other facts at both answers
pub matched : {T E : Type 0} (P R : Type 0) (Q S : E → Type 0) (r : Result T E) → (P → R) → ((e : E) → Q e → S e) → MatchResult r (λ x. P) Q
    → MatchResult r (λ x. R) S
matched P R Q S (Ok x) f g p = f p
matched P R Q S (Err e) f g q = g e q
