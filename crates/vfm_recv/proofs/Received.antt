-- What a link gave so far.
use Rattle.std.proofs.Common.{◌≡◌, ◌∙◌, sym, ap, ℕ, Option, List, [], ◌++◌}
use Rattle.vfm_outside.specs.Told.{with_appended, with_appended-with_appended, with_appended-nil}

-- some bytes came, of which a fact holds
pub record Came (before now : Option (List ℕ)) (Fact : List ℕ → Type 0) : Type 0 where
  pub came : List ℕ
  pub received : now ≡ with_appended before came
  pub fact : Fact came

-- nothing came yet
pub nothing-came : (before : Option (List ℕ)) (Fact : List ℕ → Type 0) → Fact [] → Came before before Fact
nothing-came before Fact fact = record { came = []; received = sym (with_appended-nil before); fact = fact }

-- more came
pub came-more : (before mid now : Option (List ℕ)) (bytes : List ℕ) (Fact Next : List ℕ → Type 0) → Came before mid Fact → now ≡ with_appended mid bytes
    → ((came : List ℕ) → Fact came → Next (came ++ bytes)) → Came before now Next
came-more before mid now bytes Fact Next so_far more next = record {
  came = so_far.came ++ bytes;
  received = more ∙ ap (λ (o : Option (List ℕ)). with_appended o bytes) so_far.received ∙ with_appended-with_appended before so_far.came bytes;
  fact = next so_far.came so_far.fact;
}
