-- Packets that are taken out from the least index on.
use Rattle.std.proofs.Common.{◌≡◌, ◌∙◌, refl, sym, ap, subst, ℕ, ◌<◌, ◌≤◌, ◌==◌, ◌⊎◌, inl, inr, if◌then◌else◌, nat_lt, Bool, true, false, Option, Some, None, arith, ⊎_elim, eq-eqb}
use Rattle.std.proofs.lemmas.Bool.{cases_eq, cases_lt, ne_eqb, lt-ltb, le-ltb}
use Rattle.vfm_reorder.specs.declared.held.Held.{Held}
use Rattle.vfm_reorder.specs.Waiting.{is_config_held}

-- what waits at each index: the same as before, or nothing where no config packet waited, and then nothing is left below
pub record TakenAt (before now : ℕ → Option Held) (i : ℕ) : Type 0 where
  pub gone : now i ≡ None
  pub plain : is_config_held (before i) ≡ false
  pub below : (j : ℕ) (held : Held) → now j ≡ Some held → i < j

abbrev pub TakenOut : (before now : ℕ → Option Held) → Type 0
TakenOut before now = (i : ℕ) → (now i ≡ before i) ⊎ TakenAt before now i

module _ (before now next : ℕ → Option Held) (k : ℕ) (first : Held) (out : TakenOut before now)
    (value : now k ≡ Some first) (least : (i : ℕ) → i < k → now i ≡ None) (left : (i : ℕ) → next i ≡ (if k == i then None else now i)) where
  here : next k ≡ None
  here = left k ∙ ap (λ (b : Bool). if b then None else now k) (eq-eqb k k refl)

  other : (i : ℕ) → (k ≡ i → ⊥) → next i ≡ now i
  other i away = left i ∙ ap (λ (b : Bool). if b then None else now i) (ne_eqb k i away)

  -- what is left was there
  was : (j : ℕ) (held : Held) → next j ≡ Some held → (k < j) × (now j ≡ Some held)
  was j held is =
      ⊎_elim
      (λ (same : k ≡ j). let clash : None ≡ Some held = sym here ∙ subst (λ (n : ℕ). next n ≡ Some held) (sym same) is in absurd cc)
      (λ (away : k ≡ j → ⊥).
      let there : now j ≡ Some held = sym (other j away) ∙ is in
      ⊎_elim
      (λ (low : j < k). let clash : None ≡ Some held = sym (least j low) ∙ there in absurd cc)
      (λ (high : k ≤ j). (grind (arith, away, high), there)) (cases_lt j k)) (cases_eq k j)

  first_was : before k ≡ Some first
  first_was = at (out k) where
    at : (now k ≡ before k) ⊎ TakenAt before now k → before k ≡ Some first
    at (inl same) = sym same ∙ value
    at (inr taken) = let clash : None ≡ Some first = sym taken.gone ∙ value in absurd cc

  -- one packet more is taken out
  pub taken-more : first.config ≡ false → TakenOut before next
  taken-more plain i =
      ⊎_elim
      (λ (same : k ≡ i).
      subst (λ (n : ℕ). (next n ≡ before n) ⊎ TakenAt before next n) same
      (inr (record {
        gone = here;
        plain = ap is_config_held first_was ∙ plain;
        below = λ j held is. (was j held is).0;
      })))
      (λ (away : k ≡ i → ⊥). more i away (out i)) (cases_eq k i) where
        more : (i : ℕ) → (k ≡ i → ⊥) → (now i ≡ before i) ⊎ TakenAt before now i → (next i ≡ before i) ⊎ TakenAt before next i
        more i away (inl same) = inl (other i away ∙ same)
        more i away (inr taken) = inr (record {
          gone = other i away ∙ taken.gone;
          plain = taken.plain;
          below = λ j held is. taken.below j held (was j held is).1;
        })

  -- it is the first config packet
  pub config-first : (i : ℕ) → i < k → is_config_held (before i) ≡ false
  config-first i low = at (out i) where
    at : (now i ≡ before i) ⊎ TakenAt before now i → is_config_held (before i) ≡ false
    at (inl same) = ap is_config_held (sym same ∙ least i low)
    at (inr taken) = taken.plain

  pub config-there : first.config ≡ true → is_config_held (before k) ≡ true
  config-there config = ap is_config_held first_was ∙ config

  -- what is left stands above it
  pub left-above : (i : ℕ) → next i ≡ (if nat_lt k i then before i else None)
  left-above i =
      ⊎_elim
      (λ (high : k < i).
      above i high (out i) ∙ sym (ap (λ (b : Bool). if b then before i else None) (lt-ltb k i high)))
      (λ (low : i ≤ k).
      ⊎_elim
      (λ (same : k ≡ i). subst (λ (n : ℕ). next n ≡ None) same here)
      (λ (away : k ≡ i → ⊥). other i away ∙ least i (grind (arith, away, low))) (cases_eq k i)
      ∙ sym (ap (λ (b : Bool). if b then before i else None) (le-ltb k i low))) (cases_lt k i) where
        above : (i : ℕ) → k < i → (now i ≡ before i) ⊎ TakenAt before now i → next i ≡ before i
        above i high (inl same) = other i (λ e. omega (arith, e, high)) ∙ same
        above i high (inr taken) = let low = taken.below k first value in absurd (omega (arith, low, high))

-- where nothing is left, there was no config packet
pub none-config : (before now : ℕ → Option Held) → TakenOut before now → ((i : ℕ) → now i ≡ None) → (i : ℕ) → is_config_held (before i) ≡ false
none-config before now out nothing i = at (out i) where
  at : (now i ≡ before i) ⊎ TakenAt before now i → is_config_held (before i) ≡ false
  at (inl same) = ap is_config_held (sym same ∙ nothing i)
  at (inr taken) = taken.plain
