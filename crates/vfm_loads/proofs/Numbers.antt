-- The requests of a device of a generated load by their numbers: counts, bells and blocks.
use Rattle.std.proofs.Common.{◌≡◌, ℕ, ◌+◌, ◌/◌, ◌%◌, ◌<◌, ◌≤◌, ◌==◌, ◌||◌, Bool, true, false, if◌then◌else◌, nat_lt, nat_le, refl, ap, sym, ◌∙◌, subst, arith, ◌⊎◌, inl, inr, ⊎_elim}
use Rattle.std.proofs.lemmas.Bool.{cond-true, cond-false, lt-ltb, le-ltb, eq-eqb, ne_eqb, le-leb, lt-leb, or_left, false≢true, cases_lt}
use Rattle.vfm_loads.specs.Generated.{queued_job}

-- the job of request n: asked for at the start, or later by the doorbell
unfoldable pub request_job : ℕ → ℕ
request_job n = if nat_lt n 1088 then queued_job n else 33

-- job j counts
abbrev pub is_count : ℕ → Bool
is_count j = nat_lt j 32 || j == 33

pub record CountsAt (n : ℕ) : Type 0 where
  pub counts : is_count (request_job n) ≡ true
  pub low : request_job n < 35
  pub place : n < 1088 → n % 34 < 32

pub record RingsAt (n : ℕ) : Type 0 where
  pub job : request_job n ≡ 32
  pub early : n < 1088
  pub place : n % 34 ≡ 32

pub record WritesAt (n : ℕ) : Type 0 where
  pub job : request_job n ≡ 34
  pub early : n < 1088
  pub place : n % 34 ≡ 33

pub job_early : (n : ℕ) → n < 1088 → request_job n ≡ queued_job n
unfolding request_job
job_early n early = cond-true (nat_lt n 1088) _ _ (lt-ltb n 1088 early)

pub job_late : (n : ℕ) → 1088 ≤ n → request_job n ≡ 33
unfolding request_job
job_late n late = cond-false (nat_lt n 1088) _ _ (le-ltb n 1088 late)

job_in_round : (n : ℕ) → n < 1088 → n % 34 < 33 → request_job n ≡ n % 34
job_in_round n early low =
    job_early n early ∙ cond-false (n % 34 == 33) _ _ (ne_eqb (n % 34) 33 (λ (same : n % 34 ≡ 33). omega arith))

job_of_block : (n : ℕ) → n < 1088 → n % 34 ≡ 33 → request_job n ≡ 34
job_of_block n early is = job_early n early ∙ cond-true (n % 34 == 33) _ _ (eq-eqb (n % 34) 33 is)

pub count_late : (n : ℕ) → 1088 ≤ n → CountsAt n
count_late n late =
    let job = job_late n late in
    record {
      counts = ap is_count job;
      low = subst (λ (j : ℕ). j < 35) (sym job) (omega arith);
      place = λ (early : n < 1088). omega arith;
    }

count_early : (n : ℕ) → n < 1088 → n % 34 < 32 → CountsAt n
count_early n early low =
    let job = job_in_round n early (omega arith) in
    record {
      counts = ap is_count job ∙ or_left _ _ (lt-ltb (n % 34) 32 low);
      low = subst (λ (j : ℕ). j < 35) (sym job) (omega arith);
      place = λ (again : n < 1088). low;
    }

-- every request is of one kind
pub kind : (n : ℕ) → CountsAt n ⊎ (RingsAt n ⊎ WritesAt n)
kind n = ⊎_elim early (λ (late : 1088 ≤ n). inl (count_late n late)) (cases_lt n 1088)
  where
    last : n < 1088 → (n % 34 < 33) ⊎ (33 ≤ n % 34) → 32 ≤ n % 34 → CountsAt n ⊎ (RingsAt n ⊎ WritesAt n)
    last h (inl below) high =
        let is : n % 34 ≡ 32 = omega arith in inr (inl (record { job = job_in_round n h below ∙ is; early = h; place = is }))
    last h (inr above) high =
        let is : n % 34 ≡ 33 = omega arith in inr (inr (record { job = job_of_block n h is; early = h; place = is }))

    early : n < 1088 → CountsAt n ⊎ (RingsAt n ⊎ WritesAt n)
    early h = ⊎_elim (λ (low : n % 34 < 32). inl (count_early n h low)) (last h (cases_lt (n % 34) 33)) (cases_lt (n % 34) 32)

-- after a bell comes a block, and after a block a count
pub block_after : (n : ℕ) → RingsAt n → WritesAt (n + 1)
block_after n rings =
    let place : n % 34 ≡ 32 = rings.place in
    let early : n < 1088 = rings.early in
    let next : (n + 1) % 34 ≡ 33 = omega arith in
    let below : n + 1 < 1088 = omega arith in
    record { job = job_of_block (n + 1) below next; early = below; place = next }

pub count_after : (n : ℕ) → WritesAt n → CountsAt (n + 1)
count_after n writes =
    let place : n % 34 ≡ 33 = writes.place in
    let early : n < 1088 = writes.early in
    ⊎_elim (λ (below : n + 1 < 1088). count_early (n + 1) below (omega arith)) (count_late (n + 1)) (cases_lt (n + 1) 1088)

not_both : (n j : ℕ) → CountsAt n → request_job n ≡ j → is_count j ≡ false → ⊥
not_both n j counts job other = false≢true (sym other ∙ ap is_count (sym job) ∙ counts.counts)

pub rings_at : (n : ℕ) → request_job n ≡ 32 → RingsAt n
rings_at n job = at (kind n)
  where
    at : CountsAt n ⊎ (RingsAt n ⊎ WritesAt n) → RingsAt n
    at (inl counts) = absurd (not_both n 32 counts job refl)
    at (inr (inl rings)) = rings
    at (inr (inr writes)) = let other : 32 ≡ 34 = sym job ∙ writes.job in absurd (omega (arith, other))

-- ---- how many bells stand below a number

unfoldable pub bells : ℕ → ℕ
bells n = if nat_lt n 1088 then (n + 1) / 34 else 32

bells_early : (n : ℕ) → n < 1088 → bells n ≡ (n + 1) / 34
unfolding bells
bells_early n early = cond-true (nat_lt n 1088) _ _ (lt-ltb n 1088 early)

pub bells_late : (n : ℕ) → 1088 ≤ n → bells n ≡ 32
unfolding bells
bells_late n late = cond-false (nat_lt n 1088) _ _ (le-ltb n 1088 late)

pub bells_few : (n : ℕ) → bells n ≤ 32
bells_few n =
    ⊎_elim (λ (early : n < 1088). let is = bells_early n early in omega (arith, is))
    (λ (late : 1088 ≤ n). let is = bells_late n late in omega (arith, is)) (cases_lt n 1088)

-- one more request that is no bell, and one that is
bells_next : (n : ℕ) → n < 1088 → ((n + 2) / 34 ≡ bells (n + 1)) × ((n + 1) / 34 ≡ bells n)
bells_next n early = (
  ⊎_elim (λ (below : n + 1 < 1088). let is = bells_early (n + 1) below in omega (arith, is))
      (λ (last : 1088 ≤ n + 1). let is = bells_late (n + 1) last in omega (arith, is)) (cases_lt (n + 1) 1088),
  sym (bells_early n early),
)

pub bells_count : (n : ℕ) → CountsAt n → bells (n + 1) ≡ bells n
bells_count n counts =
    ⊎_elim (λ (early : n < 1088). let place = counts.place early in let next = bells_next n early in omega (arith, place, next.0, next.1))
    (λ (late : 1088 ≤ n). let now = bells_late n late in let next = bells_late (n + 1) (omega arith) in omega (arith, now, next)) (cases_lt n 1088)

pub bells_block : (n : ℕ) → WritesAt n → bells (n + 1) ≡ bells n
bells_block n writes =
    let next = bells_next n writes.early in let place = writes.place in omega (arith, place, next.0, next.1)

pub bells_ring : (n : ℕ) → RingsAt n → bells (n + 1) ≡ bells n + 1
bells_ring n rings =
    let next = bells_next n rings.early in let place = rings.place in omega (arith, place, next.0, next.1)

-- ---- whether a block stands below a number

pub block_below : (n : ℕ) → CountsAt n ⊎ RingsAt n → nat_le 34 (n + 1) ≡ nat_le 34 n
block_below n (inl counts) =
    ⊎_elim (λ (low : n < 33). lt-leb 34 (n + 1) (omega arith) ∙ sym (lt-leb 34 n (omega arith)))
    (λ (high : 33 ≤ n). let place = counts.place in
    ⊎_elim (λ (early : n < 1088). let p = place early in let far : 34 ≤ n = omega (arith, p) in le-leb 34 (n + 1) (omega arith) ∙ sym (le-leb 34 n far))
    (λ (late : 1088 ≤ n). le-leb 34 (n + 1) (omega arith) ∙ sym (le-leb 34 n (omega arith))) (cases_lt n 1088)) (cases_lt n 33)
block_below n (inr rings) =
    let place = rings.place in
    ⊎_elim (λ (low : n < 33). lt-leb 34 (n + 1) (omega arith) ∙ sym (lt-leb 34 n (omega arith)))
    (λ (high : 33 ≤ n). let far : 34 ≤ n = omega (arith, place) in le-leb 34 (n + 1) (omega arith) ∙ sym (le-leb 34 n far)) (cases_lt n 33)

pub block_there : (n : ℕ) → WritesAt n → nat_le 34 (n + 1) ≡ true
block_there n writes = let place = writes.place in le-leb 34 (n + 1) (omega (arith, place))
