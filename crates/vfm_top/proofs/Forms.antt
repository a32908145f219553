-- Words that are neither two, three nor four have no form.
use Rattle.std.proofs.Common.{◌≡◌, ◌≢◌, ℕ, List, [], ◌∷◌, length, map, refl}
use Rattle.std.specs.Prelude.{None}
use Rattle.vfm_top.specs.Form.{form_of}

pub other_length : {X : Type 0} (f : X → List ℕ) (ws : List X) → length ws ≢ 2 → length ws ≢ 3 → length ws ≢ 4
    → form_of (map f ws) ≡ None
other_length f [] h t k = refl
other_length f (a ∷ []) h t k = refl
other_length f (a ∷ b ∷ []) h t k = absurd (h refl)
other_length f (a ∷ b ∷ c ∷ []) h t k = absurd (t refl)
other_length f (a ∷ b ∷ c ∷ d ∷ []) h t k = absurd (k refl)
other_length f (a ∷ b ∷ c ∷ d ∷ e ∷ ws) h t k = refl
