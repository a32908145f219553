-- Lists of requests whose numbers rise.
use Rattle.std.proofs.Common.{◌≡◌, ℕ, suc, ◌+◌, ◌<◌, ◌≤◌, ◌==◌, Bool, true, false, ◌||◌, if◌then◌else◌, List, [], ◌∷◌, ◌++◌, length, refl, ap, ◌∙◌, subst, arith, eqb-true, eq-eqb, ne_eqb}
use Rattle.std.proofs.lemmas.Bool.{cond-true, cond-false, or_from, or_parts, or_left, or_right, cond_both, false≢true}
use Rattle.vfm_types.specs.Machine.{numbered}
use Rattle.vfm_types.specs.Requests.{job_or_zero, without}
use Rattle.vfm_laws.specs.Queues.{is_listed, IsRising}

-- a fact of a Bool, by its two values
pub by_bool : (b : Bool) (P : Bool → Type 0) → (b ≡ true → P true) → (b ≡ false → P false) → P b
by_bool true P yes_ no_ = yes_ refl
by_bool false P yes_ no_ = no_ refl

pub rising_low : (low : ℕ) (requests : List (ℕ × ℕ)) (high : ℕ) → IsRising low requests high → low ≤ high
rising_low low [] high rising = rising
rising_low low (r ∷ requests) high rising =
    let rest : r.0 + 1 ≤ high = rising_low (r.0 + 1) requests high rising.1 in
    let first : low ≤ r.0 = rising.0 in omega arith

pub rising_from : (least low : ℕ) (requests : List (ℕ × ℕ)) (high : ℕ) → least ≤ low → IsRising low requests high → IsRising least requests high
rising_from least low [] high below rising = let bound : low ≤ high = rising in omega arith
rising_from least low (r ∷ requests) high below rising =
    let first : low ≤ r.0 = rising.0 in (omega arith, rising.1)

pub rising_numbered : (low n : ℕ) (jobs : List ℕ) → low ≤ n → IsRising low (numbered n jobs) (n + length jobs)
rising_numbered low n [] below = omega arith
rising_numbered low n (job ∷ jobs) below =
    (below, subst (λ (high : ℕ). IsRising (n + 1) (numbered (n + 1) jobs) high) (omega arith) (rising_numbered (n + 1) (n + 1) jobs (omega arith)))

pub rising_grown : (low : ℕ) (requests : List (ℕ × ℕ)) (high : ℕ) (jobs : List ℕ) → IsRising low requests high
    → IsRising low (requests ++ numbered high jobs) (high + length jobs)
rising_grown low [] high jobs rising = rising_numbered low high jobs rising
rising_grown low (r ∷ requests) high jobs rising = (rising.0, rising_grown (r.0 + 1) requests high jobs rising.1)

pub rising_without : (n low : ℕ) (requests : List (ℕ × ℕ)) (high : ℕ) → IsRising low requests high → IsRising low (without n requests) high
rising_without n low [] high rising = rising
rising_without n low (r ∷ requests) high rising =
    cond_both (r.0 == n) requests (r ∷ without n requests) (λ (xs : List (ℕ × ℕ)). IsRising low xs high)
    (λ same. let first : low ≤ r.0 = rising.0 in rising_from low (r.0 + 1) requests high (omega arith) rising.1)
    (λ other. (rising.0, rising_without n (r.0 + 1) requests high rising.1))

-- a number below all of these isn't among them
pub unlisted_below : (n low : ℕ) (requests : List (ℕ × ℕ)) (high : ℕ) → n < low → IsRising low requests high → is_listed n requests ≡ false
unlisted_below n low [] high below rising = refl
unlisted_below n low (r ∷ requests) high below rising =
    let first : low ≤ r.0 = rising.0 in
    let other : r.0 ≡ n → ⊥ = λ same. omega (arith, same) in
    or_from (r.0 == n) (is_listed n requests) (ne_eqb r.0 n other) (unlisted_below n (r.0 + 1) requests high (omega arith) rising.1)

pub unlisted_self : (n low : ℕ) (requests : List (ℕ × ℕ)) (high : ℕ) → IsRising low requests high → is_listed n (without n requests) ≡ false
unlisted_self n low [] high rising = refl
unlisted_self n low (r ∷ requests) high rising =
    cond_both (r.0 == n) requests (r ∷ without n requests) (λ (xs : List (ℕ × ℕ)). is_listed n xs ≡ false)
    (λ same. let e : r.0 ≡ n = eqb-true r.0 n same in unlisted_below n (r.0 + 1) requests high (omega arith) rising.1)
    (λ other. or_from (r.0 == n) (is_listed n (without n requests)) other (unlisted_self n (r.0 + 1) requests high rising.1))

pub unlisted_without : (k n : ℕ) (requests : List (ℕ × ℕ)) → is_listed k requests ≡ false → is_listed k (without n requests) ≡ false
unlisted_without k n [] unlisted = refl
unlisted_without k n (r ∷ requests) unlisted =
    let parts = or_parts (r.0 == k) (is_listed k requests) unlisted in
    cond_both (r.0 == n) requests (r ∷ without n requests) (λ (xs : List (ℕ × ℕ)). is_listed k xs ≡ false)
    (λ same. parts.1)
    (λ other. or_from (r.0 == k) (is_listed k (without n requests)) parts.0 (unlisted_without k n requests parts.1))

unlisted_numbered : (k n : ℕ) (jobs : List ℕ) → k < n → is_listed k (numbered n jobs) ≡ false
unlisted_numbered k n [] below = refl
unlisted_numbered k n (job ∷ jobs) below =
    let other : n ≡ k → ⊥ = λ same. omega (arith, same) in
    or_from (n == k) (is_listed k (numbered (n + 1) jobs)) (ne_eqb n k other) (unlisted_numbered k (n + 1) jobs (omega arith))

pub unlisted_grown : (k : ℕ) (requests : List (ℕ × ℕ)) (high : ℕ) (jobs : List ℕ) → k < high → is_listed k requests ≡ false
    → is_listed k (requests ++ numbered high jobs) ≡ false
unlisted_grown k [] high jobs below unlisted = unlisted_numbered k high jobs below
unlisted_grown k (r ∷ requests) high jobs below unlisted =
    let parts = or_parts (r.0 == k) (is_listed k requests) unlisted in
    or_from (r.0 == k) (is_listed k (requests ++ numbered high jobs)) parts.0 (unlisted_grown k requests high jobs below parts.1)

-- what stands after some of these is at least where they begin
rising_at : (low : ℕ) (front : List (ℕ × ℕ)) (r : ℕ × ℕ) (back : List (ℕ × ℕ)) (high : ℕ) → IsRising low (front ++ r ∷ back) high → low ≤ r.0
rising_at low [] r back high rising = rising.0
rising_at low (q ∷ front) r back high rising =
    let first : low ≤ q.0 = rising.0 in
    let later : q.0 + 1 ≤ r.0 = rising_at (q.0 + 1) front r back high rising.1 in omega arith

-- a number stands once, so none of what is before it has it
pub unlisted_front : (low : ℕ) (front : List (ℕ × ℕ)) (r : ℕ × ℕ) (back : List (ℕ × ℕ)) (high : ℕ) → IsRising low (front ++ r ∷ back) high
    → is_listed r.0 front ≡ false
unlisted_front low [] r back high rising = refl
unlisted_front low (q ∷ front) r back high rising =
    let later : q.0 + 1 ≤ r.0 = rising_at (q.0 + 1) front r back high rising.1 in
    let other : q.0 ≡ r.0 → ⊥ = λ same. omega (arith, same) in
    or_from (q.0 == r.0) (is_listed r.0 front) (ne_eqb q.0 r.0 other) (unlisted_front (q.0 + 1) front r back high rising.1)

pub listed_behind : (front : List (ℕ × ℕ)) (r : ℕ × ℕ) (back : List (ℕ × ℕ)) → is_listed r.0 (front ++ r ∷ back) ≡ true
listed_behind [] r back = or_left (r.0 == r.0) (is_listed r.0 back) (eq-eqb r.0 r.0 refl)
listed_behind (q ∷ front) r back = or_right (q.0 == r.0) (is_listed r.0 (front ++ r ∷ back)) (listed_behind front r back)

pub job_behind : (front : List (ℕ × ℕ)) (r : ℕ × ℕ) (back : List (ℕ × ℕ)) → is_listed r.0 front ≡ false → job_or_zero r.0 (front ++ r ∷ back) ≡ r.1
job_behind [] r back unlisted = cond-true (r.0 == r.0) r.1 (job_or_zero r.0 back) (eq-eqb r.0 r.0 refl)
job_behind (q ∷ front) r back unlisted =
    let parts = or_parts (q.0 == r.0) (is_listed r.0 front) unlisted in
    cond-false (q.0 == r.0) q.1 (job_or_zero r.0 (front ++ r ∷ back)) parts.0 ∙ job_behind front r back parts.1

pub job_front : (n : ℕ) (front back : List (ℕ × ℕ)) → is_listed n front ≡ true → job_or_zero n (front ++ back) ≡ job_or_zero n front
job_front n [] back listed = absurd (false≢true listed)
job_front n (q ∷ front) back listed =
    by_bool (q.0 == n) (λ b. (b || is_listed n front) ≡ true → (if b then q.1 else job_or_zero n (front ++ back)) ≡ (if b then q.1 else job_or_zero n front))
    (λ same h. refl) (λ other h. job_front n front back h) listed

pub without_front : (n : ℕ) (front back : List (ℕ × ℕ)) → is_listed n front ≡ true → without n (front ++ back) ≡ without n front ++ back
without_front n [] back listed = absurd (false≢true listed)
without_front n (q ∷ front) back listed =
    by_bool (q.0 == n) (λ b. (b || is_listed n front) ≡ true → (if b then front ++ back else q ∷ without n (front ++ back)) ≡ (if b then front else q ∷ without n front) ++ back)
    (λ same h. refl) (λ other h. ap (λ (xs : List (ℕ × ℕ)). q ∷ xs) (without_front n front back h)) listed

pub length_without : (n : ℕ) (requests : List (ℕ × ℕ)) → is_listed n requests ≡ true → length requests ≡ length (without n requests) + 1
length_without n [] listed = absurd (false≢true listed)
length_without n (q ∷ requests) listed =
    by_bool (q.0 == n) (λ b. (b || is_listed n requests) ≡ true → suc (length requests) ≡ length (if b then requests else q ∷ without n requests) + 1)
    (λ same h. omega arith)
    (λ other h. let rest : length requests ≡ length (without n requests) + 1 = length_without n requests h in omega arith) listed

pub listed_front : (n : ℕ) (front back : List (ℕ × ℕ)) → is_listed n front ≡ true → is_listed n (front ++ back) ≡ true
listed_front n [] back listed = absurd (false≢true listed)
listed_front n (q ∷ front) back listed =
    by_bool (q.0 == n) (λ b. (b || is_listed n front) ≡ true → (b || is_listed n (front ++ back)) ≡ true)
    (λ same h. refl) (λ other h. listed_front n front back h) listed

pub rising_listed : (n low : ℕ) (requests : List (ℕ × ℕ)) (high : ℕ) → IsRising low requests high → is_listed n requests ≡ true → n < high
rising_listed n low [] high rising listed = absurd (false≢true listed)
rising_listed n low (r ∷ requests) high rising listed =
    by_bool (r.0 == n) (λ b. (r.0 == n) ≡ b → (b || is_listed n requests) ≡ true → n < high)
    (λ same e h. let first : r.0 ≡ n = eqb-true r.0 n e in let bound : r.0 + 1 ≤ high = rising_low (r.0 + 1) requests high rising.1 in omega arith)
    (λ other e h. rising_listed n (r.0 + 1) requests high rising.1 h) refl listed

pub length_numbered : (n : ℕ) (jobs : List ℕ) → length (numbered n jobs) ≡ length jobs
length_numbered n [] = refl
length_numbered n (job ∷ jobs) = ap suc (length_numbered (n + 1) jobs)
