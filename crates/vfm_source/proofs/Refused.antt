-- Links that are told one after another that the source gives up.
use Rattle.std.proofs.Common.{◌≡◌, ℕ, ◌+◌, ◌<◌, ◌≤◌, Bool, true, false, Option, Some, None, List, length, slice_index_or, ap, sym, ◌∙◌, subst, arith, ⊎_elim}
use Rattle.std.proofs.lemmas.Bool.{cases_eq}
use Rattle.std.proofs.lemmas.List.{get_or-set_same, get_or-set_other}
use Rattle.vfm_outside.specs.Counts.{Rose}
use Rattle.vfm_outlets.specs.Carrying.{sooner}
use Rattle.vfm_source.specs.Offers.{IsFine, Told, untold}
use Rattle.vfm_source.specs.Refusals.{AllRefused, AreFine, FailedOrFine, IsFirstRefusal, IsRefused, OneRefused}

module _ (bytes : List ℕ) (start before now : List Told) (k : ℕ) (failed : Bool) (inside : k < length before)
    (untouched : (j : ℕ) → k ≤ j → slice_index_or before j untold ≡ slice_index_or start j untold) (one : OneRefused bytes k before now failed) where
  at_this : slice_index_or now k untold ≡ one.link
  at_this = ap (λ (xs : List Told). slice_index_or xs k untold) one.place ∙ get_or-set_same before k one.link untold inside

  at_other : (j : ℕ) → (j ≡ k → ⊥) → slice_index_or now j untold ≡ slice_index_or before j untold
  at_other j other = ap (λ (xs : List Told). slice_index_or xs j untold) one.place ∙ get_or-set_other before k j one.link untold other

  this : IsRefused bytes (slice_index_or start k untold) (slice_index_or now k untold) failed
  this =
      subst (λ (was : Told). IsRefused bytes was (slice_index_or now k untold) failed) (untouched k (omega arith))
      (subst (λ (link : Told). IsRefused bytes (slice_index_or before k untold) link failed) (sym at_this) one.refused)

  pub refused_more : AllRefused bytes k start before → AllRefused bytes (k + 1) start now
  refused_more all j below =
      ⊎_elim
      (λ (same : j ≡ k).
      let here = this in
      (failed, subst (λ (i : ℕ). IsRefused bytes (slice_index_or start i untold) (slice_index_or now i untold) failed) (sym same) here))
      (λ (other : j ≡ k → ⊥).
      let was = all j (omega (arith, below, other)) in
      (was.0, subst (λ (link : Told). IsRefused bytes (slice_index_or start j untold) link was.0) (sym (at_other j other)) was.1))
      (cases_eq j k)

  fine_below : (n : ℕ) → n ≤ k → AreFine n start before → AreFine n start now
  fine_below n low fine j below =
      subst (IsFine (slice_index_or start j untold)) (sym (at_other j (λ same. omega (arith, same, below, low)))) (fine j below)

  by : (b : Bool) → FailedOrFine b (slice_index_or start k untold) (slice_index_or now k untold) → AreFine k start before
      → IsFirstRefusal (k + 1) start now (sooner None k b)
  by true rose fine = (omega arith, rose, fine_below k (omega arith) fine)
  by false here fine = λ j below.
      ⊎_elim (λ (same : j ≡ k). subst (λ (i : ℕ). IsFine (slice_index_or start i untold) (slice_index_or now i untold)) (sym same) here)
      (λ (other : j ≡ k → ⊥). fine_below k (omega arith) fine j (omega (arith, below, other))) (cases_eq j k)

  pub least_more : (least : Option ℕ) → IsFirstRefusal k start before least → IsFirstRefusal (k + 1) start now (sooner least k failed)
  least_more None fine = by failed this.ends fine
  least_more (Some m) is = (
    omega (arith, is.0),
    subst (λ (link : Told). Rose (slice_index_or start m untold).failed_out link.failed_out)
        (sym (at_other m (let low = is.0 in λ same. omega (arith, same, low)))) is.1,
    fine_below m (let low = is.0 in omega (arith, low)) is.2,
  )

  pub untouched_more : (j : ℕ) → k + 1 ≤ j → slice_index_or now j untold ≡ slice_index_or start j untold
  untouched_more j above = at_other j (λ same. omega (arith, same, above)) ∙ untouched j (omega (arith, above))
