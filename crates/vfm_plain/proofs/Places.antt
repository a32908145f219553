-- A look for a request among the pending ones, one place after another.
use Rattle.std.proofs.Common.{◌≡◌, ℕ, zero, suc, ◌+◌, ◌-◌, ◌<◌, ◌==◌, ◌||◌, not, Bool, true, false, if◌then◌else◌, List, [], ◌++◌, length, take, drop, get_or, remove, refl, sym, ap, ◌∙◌, eq-eqb, add-one, append_assoc, arith}
use Rattle.std.proofs.lemmas.List.{drop_more, take_more}
use Rattle.std.proofs.lemmas.Bool.{ne_eqb}
use Rattle.vfm_types.specs.Requests.{is_free, without, job_or_zero}

-- the looks at the places below k leave the three answers to the places from k on
pub record Looked (fence : ℕ → Bool) (window : ℕ) (requests : List (ℕ × ℕ)) (n k : ℕ) : Type 0 where
  pub free : is_free fence (k == 0) (window - k) (drop k requests) n ≡ is_free fence true window requests n
  pub rest : take k requests ++ without n (drop k requests) ≡ without n requests
  pub job : job_or_zero n (drop k requests) ≡ job_or_zero n requests

-- what is_free says at the first place
abbrev pub free_at : (ℕ → Bool) → Bool → ℕ → (ℕ × ℕ) → List (ℕ × ℕ) → ℕ → Bool
free_at fence first window request requests n =
    if request.0 == n then first || not (fence request.1)
    else (if fence request.1 then false else is_free fence false window requests n)

pub free_more : (fence : ℕ → Bool) (first : Bool) (window : ℕ) (requests : List (ℕ × ℕ)) (n k : ℕ) → k < window → k < length requests → is_free fence first (window - k) (drop k requests) n ≡ free_at fence first (window - (k + 1)) (get_or requests k (0, 0)) (drop (k + 1) requests) n
free_more fence first window requests n k h l =
    let e : window - k ≡ suc (window - (k + 1)) = omega arith in
    rw (e, drop_more requests k (0, 0) l)

-- no place is left
pub free_none : (fence : ℕ → Bool) (first : Bool) (window : ℕ) (requests : List (ℕ × ℕ)) (n : ℕ) → requests ≡ [] → is_free fence first window requests n ≡ false
free_none fence first zero requests n e = refl
free_none fence first (suc window) requests n e = rw e

-- no look was taken yet
pub looked_none : (fence : ℕ → Bool) (window : ℕ) (requests : List (ℕ × ℕ)) (n : ℕ) → Looked fence window requests n 0
looked_none fence window requests n =
    let e : window - 0 ≡ window = omega arith in record { free = rw e; rest = refl; job = refl }

-- the request is found at place k: whether it is free
pub found_free : (fence : ℕ → Bool) (window : ℕ) (requests : List (ℕ × ℕ)) (n k : ℕ) → Looked fence window requests n k → k < window → k < length requests → (get_or requests k (0, 0)).0 ≡ n → is_free fence true window requests n ≡ ((k == 0) || not (fence (get_or requests k (0, 0)).1))
found_free fence window requests n k looked h l e =
    sym looked.free ∙ free_more fence (k == 0) window requests n k h l
    ∙ ap (λ b. if b then (k == 0) || not (fence (get_or requests k (0, 0)).1) else (if fence (get_or requests k (0, 0)).1 then false else is_free fence false (window - (k + 1)) (drop (k + 1) requests) n)) (eq-eqb (get_or requests k (0, 0)).0 n e)

-- it is found: what is left without it
pub found_rest : (fence : ℕ → Bool) (window : ℕ) (requests : List (ℕ × ℕ)) (n k : ℕ) → Looked fence window requests n k → k < length requests → (get_or requests k (0, 0)).0 ≡ n → remove requests k ≡ without n requests
found_rest fence window requests n k looked l e =
    let there : without n (drop k requests) ≡ drop (k + 1) requests = rw (drop_more requests k (0, 0) l, eq-eqb (get_or requests k (0, 0)).0 n e) in
    rw (← looked.rest, there, add-one)

-- it is found: its job
pub found_job : (fence : ℕ → Bool) (window : ℕ) (requests : List (ℕ × ℕ)) (n k : ℕ) → Looked fence window requests n k → k < length requests → (get_or requests k (0, 0)).0 ≡ n → (get_or requests k (0, 0)).1 ≡ job_or_zero n requests
found_job fence window requests n k looked l e =
    rw (← looked.job, drop_more requests k (0, 0) l, eq-eqb (get_or requests k (0, 0)).0 n e)

-- another request stands at place k, a fence
pub found_fence : (fence : ℕ → Bool) (window : ℕ) (requests : List (ℕ × ℕ)) (n k : ℕ) → Looked fence window requests n k → k < window → k < length requests → ((get_or requests k (0, 0)).0 == n) ≡ false → fence (get_or requests k (0, 0)).1 ≡ true → is_free fence true window requests n ≡ false
found_fence fence window requests n k looked h l other is =
    rw (← looked.free, free_more fence (k == 0) window requests n k h l, other, is)

-- another request stands at place k, no fence
pub looked_more : (fence : ℕ → Bool) (window : ℕ) (requests : List (ℕ × ℕ)) (n k : ℕ) → Looked fence window requests n k → k < window → k < length requests → ((get_or requests k (0, 0)).0 == n) ≡ false → fence (get_or requests k (0, 0)).1 ≡ false → Looked fence window requests n (k + 1)
looked_more fence window requests n k looked h l other is =
    let not_first : (k + 1 == 0) ≡ false = ne_eqb (k + 1) 0 (λ (e : k + 1 ≡ 0). omega arith) in
    let free : is_free fence (k + 1 == 0) (window - (k + 1)) (drop (k + 1) requests) n ≡ is_free fence true window requests n =
    rw (not_first, ← looked.free, free_more fence (k == 0) window requests n k h l, other, is) in
    let rest : take (k + 1) requests ++ without n (drop (k + 1) requests) ≡ without n requests =
    rw (← looked.rest, drop_more requests k (0, 0) l, other, take_more requests k (0, 0) l, append_assoc) in
    let job : job_or_zero n (drop (k + 1) requests) ≡ job_or_zero n requests =
    rw (← looked.job, drop_more requests k (0, 0) l, other) in
    record { free = free; rest = rest; job = job }
