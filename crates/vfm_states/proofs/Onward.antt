-- One step of the walk along a path, for the loop that makes it.
use Rattle.std.proofs.Common.{◌≡◌, ℕ, suc, ◌+◌, ◌-◌, ◌<◌, ◌≤◌, true, false, List, [], ◌∷◌, ◌++◌, arith, refl, ap, ◌∙◌, append_assoc, sym}
use Rattle.std.proofs.Common.{None, Ok, eq-eqb}
use Rattle.std.proofs.lemmas.List.{append-nil}
use Rattle.std.proofs.lemmas.Bool.{ne_eqb}
use Rattle.vfm_types.specs.State.{state_number}
use Rattle.vfm_types.specs.declared.state.MigState.{MigState}
use Rattle.vfm_types.specs.Paths.{path_of, path_refusal, states_up_to, next_towards, same_state}

-- before the target one more state stands on the path
pub states_up_to-go : (n : ℕ) (s to : MigState) (bits : ℕ) → n < 4 → same_state s to ≡ false → states_up_to (4 - n) s to bits ≡ next_towards s to bits ∷ states_up_to (4 - (n + 1)) (next_towards s to bits) to bits
states_up_to-go n s to bits below other = let e : 4 - n ≡ suc (4 - (n + 1)) = omega arith in rw e (rw other refl)

-- at the target none stands
pub states_up_to-end : (n : ℕ) (s to : MigState) (bits : ℕ) → n < 4 → same_state s to ≡ true → states_up_to (4 - n) s to bits ≡ []
states_up_to-end n s to bits below same = let e : 4 - n ≡ suc (4 - (n + 1)) = omega arith in rw e (rw same refl)

-- after a step the route and what is still to come are the same path as before it
pub step_keeps_path : (route new whole : List MigState) (n : ℕ) (s w to : MigState) (bits : ℕ) → n < 4 → (state_number s ≡ state_number to → ⊥) → w ≡ next_towards s to bits → new ≡ route ++ w ∷ [] → route ++ states_up_to (4 - n) s to bits ≡ whole → new ++ states_up_to (4 - (n + 1)) w to bits ≡ whole
step_keeps_path route new whole n s w to bits below other next gone path = rw (gone, next) (append_assoc route (next_towards s to bits ∷ []) (states_up_to (4 - (n + 1)) (next_towards s to bits) to bits) ∙ (ap (λ t. route ++ t) (sym (states_up_to-go n s to bits below (ne_eqb _ _ other))) ∙ path))

-- where no refusal stands, the route is the path as soon as it is whole
pub path_done : (from to : MigState) (bits : ℕ) (route : List MigState) → None ≡ path_refusal from to bits → route ≡ from ∷ states_up_to 4 from to bits → Ok route ≡ path_of from to bits
path_done from to bits route none whole = rw (← none, path_of) (ap Ok whole)

-- nothing is still to come after four steps
pub whole_at_bound : (route whole : List MigState) (n : ℕ) (s to : MigState) (bits : ℕ) → 4 ≤ n → route ++ states_up_to (4 - n) s to bits ≡ whole → route ≡ whole
whole_at_bound route whole n s to bits bound path = let e : 4 - n ≡ 0 = omega arith in let done : route ++ [] ≡ whole = rw e at path in sym (append-nil route) ∙ done

-- nor at the target
pub whole_at_target : (route whole : List MigState) (n : ℕ) (s to : MigState) (bits : ℕ) → n < 4 → state_number s ≡ state_number to → route ++ states_up_to (4 - n) s to bits ≡ whole → route ≡ whole
whole_at_target route whole n s to bits below same path = sym (append-nil route) ∙ (ap (λ t. route ++ t) (sym (states_up_to-end n s to bits below (eq-eqb _ _ same))) ∙ path)
