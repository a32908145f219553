-- What the devices reported since the newest pass began, gathered, is what their last reports gave.
use Rattle.std.proofs.Common.{◌≡◌, ℕ, zero, suc, ◌<◌, ◌==◌, Bool, true, false, ◌&&◌, ◌||◌, if◌then◌else◌, nat_le, List, [], ◌∷◌, None, refl, ap, sym, ◌∙◌, arith, ltb-true, ◌⊎◌, inl, inr}
use Rattle.std.proofs.lemmas.Bool.{eq-eqb, ne_eqb, cases_eq}
use Rattle.vfm_types.specs.declared.desc.Desc.{Desc}
use Rattle.vfm_types.specs.declared.entry.Entry.{Entry}
use Rattle.vfm_types.specs.declared.entry.Entry.TheVariants.{Report, Pass}
use Rattle.vfm_base.specs.Least.{any_below}
use Rattle.vfm_types.specs.Desc.{device_count}
use Rattle.vfm_types.specs.Marks.{is_marked, has_reported, was_reported}
use Rattle.vfm_plain.specs.Legal.{IsLegal}
use Rattle.vfm_plain.specs.Rules.{fault_of}
use Rattle.vfm_parts.specs.PartsOf.{is_gathered}
use Rattle.vfm_parts.proofs.Allowed.{report_once, pass_reported}

-- none passes a test that is always false
none_below : (n : ℕ) → any_below n (λ d. false) ≡ false
none_below zero = refl
none_below (suc n) = ap (λ (b : Bool). b || false) (none_below n)

any_same : (n : ℕ) (f g : ℕ → Bool) → ((k : ℕ) → k < n → f k ≡ g k) → any_below n f ≡ any_below n g
any_same zero f g h = refl
any_same (suc n) f g h = rw (any_same n f g (λ k inside. h k (omega arith)), h n (omega arith)) refl

or_swap : (a b c : Bool) → ((a || b) || c) ≡ (a || (b || c))
or_swap true b c = refl
or_swap false b c = refl

or_later : (a b : Bool) → (b || a) ≡ (a || (b || false))
or_later true true = refl
or_later true false = refl
or_later false true = refl
or_later false false = refl

-- a test changed at one place where it was false
any_changed : (n : ℕ) (f g : ℕ → Bool) (e : ℕ) → e < n → f e ≡ false → ((k : ℕ) → (k ≡ e → ⊥) → g k ≡ f k)
    → any_below n g ≡ (g e || any_below n f)
any_changed zero f g e inside was other = absurd (omega arith)
any_changed (suc n) f g e inside was other = at (λ lower. any_changed n f g e lower was other) (cases_eq n e)
  where
    at : (e < n → any_below n g ≡ (g e || any_below n f)) → (n ≡ e) ⊎ (n ≡ e → ⊥) → (any_below n g || g n) ≡ (g e || (any_below n f || f n))
    at rest (inl same) =
        ap (λ (b : Bool). b || g n) (any_same n g f (λ k below. other k (λ here. omega arith)))
        ∙ ap (λ (b : Bool). any_below n f || b) (ap g same)
        ∙ or_later (g e) (any_below n f)
        ∙ ap (λ (b : Bool). g e || (any_below n f || b)) (sym was ∙ ap f (sym same))
    at rest (inr apart) =
        ap (λ (b : Bool). b || g n) (rest (omega arith))
        ∙ ap (λ (b : Bool). (g e || any_below n f) || b) (other n apart)
        ∙ or_swap (g e) (any_below n f) (f n)

pub gathered_is : (D : Desc) (past : List Entry) (p : ℕ) → IsLegal D past
    → is_gathered D p past ≡ any_below (device_count D) (λ d. has_reported d past && was_reported D d p past)
gathered_is D [] p legal = sym (none_below (device_count D))
gathered_is D (Pass k ∷ past) p legal = sym (none_below (device_count D))
gathered_is D (Report e ∷ past) p legal =
    ap (λ (b : Bool). is_marked D e p past || b) (gathered_is D past p legal.2)
    ∙ sym (any_changed (device_count D) (λ d. has_reported d past && was_reported D d p past)
    (λ d. (e == d || has_reported d past) && (if e == d then is_marked D d p past else was_reported D d p past)) e
    (ltb-true e (device_count D) legal.0)
    (ap (λ (b : Bool). b && was_reported D e p past) (report_once D past e legal.1))
    (λ k apart. rw (ne_eqb e k (λ same. apart (sym same))) refl)
    ∙ ap (λ (b : Bool). ((b || has_reported e past) && (if b then is_marked D e p past else was_reported D e p past))
    || any_below (device_count D) (λ d. has_reported d past && was_reported D d p past)) (eq-eqb e e refl))
gathered_is D (entry ∷ past) p legal = gathered_is D past p legal.2

-- the set of a pass that isn't the first
pub gathered_set : (D : Desc) (past : List Entry) (p k : ℕ) → IsLegal D past → fault_of D past (Pass k) ≡ None → nat_le k 1 ≡ false
    → is_gathered D p past ≡ any_below (device_count D) (λ d. was_reported D d p past)
gathered_set D past p k legal fine later =
    gathered_is D past p legal
    ∙ any_same (device_count D) _ _ (λ d inside. ap (λ (b : Bool). b && was_reported D d p past) (pass_reported D past k fine later d inside))
