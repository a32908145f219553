-- The pending requests of a device: from a number on, or one and then those from two further on; which of them are enabled.
use Rattle.std.proofs.Common.{◌≡◌, ℕ, zero, suc, ◌+◌, ◌<◌, ◌≤◌, ◌==◌, not, Bool, true, false, if◌then◌else◌, List, [], ◌∷◌, ◌++◌, map, refl, ap, ap₂, sym, ◌∙◌, subst, arith, eq-eqb, eqb-true, ◌⊎◌, inl, inr}
use Rattle.std.proofs.lemmas.Bool.{cond-true, cond-false, false≢true}
use Rattle.std.specs.List.{range_with_len}
use Rattle.vfm_types.specs.Machine.{numbered}
use Rattle.vfm_types.specs.Requests.{is_free, without, job_or_zero}
use Rattle.vfm_laws.proofs.Rising.{by_bool}
use Rattle.vfm_loads.specs.Generated.{queued_job}
use Rattle.vfm_loads.proofs.Numbers.{request_job, is_count, CountsAt, RingsAt, WritesAt, job_early, kind, block_after, count_after}

-- so many requests, from n on
abbrev pub requests_from : ℕ → ℕ → List (ℕ × ℕ)
requests_from n zero = []
requests_from n (suc count) = (n, request_job n) ∷ requests_from (n + 1) count

pub queue_from : (n count : ℕ) → n + count ≤ 1088 → numbered n (map queued_job (range_with_len n count)) ≡ requests_from n count
queue_from n zero below = refl
queue_from n (suc count) below =
    ap₂ (λ (job : ℕ) (rest : List (ℕ × ℕ)). (n, job) ∷ rest) (sym (job_early n (omega arith))) (queue_from (n + 1) count (omega arith))

pub one_request_more : (n count : ℕ) → requests_from n (count + 1) ≡ requests_from n count ++ (n + count, request_job (n + count)) ∷ []
one_request_more n zero = let same : n ≡ n + 0 = omega arith in ap (λ (k : ℕ). (k, request_job k) ∷ []) same
one_request_more n (suc count) =
    let size : suc count + 1 ≡ suc (count + 1) = omega arith in
    let place : n + 1 + count ≡ n + suc count = omega arith in
    ap (requests_from n) size
    ∙ ap (λ (rest : List (ℕ × ℕ)). (n, request_job n) ∷ rest)
    (one_request_more (n + 1) count ∙ ap (λ (k : ℕ). requests_from (n + 1) count ++ (k, request_job k) ∷ []) place)

pub none_left : (n count : ℕ) → requests_from n count ≡ [] → count ≡ 0
none_left n zero none = refl
none_left n (suc count) none = absurd (cc)

-- ---- a request that stands first

pub without_first : (n job : ℕ) (rest : List (ℕ × ℕ)) → without n ((n, job) ∷ rest) ≡ rest
without_first n job rest = cond-true (n == n) _ _ (eq-eqb n n refl)

pub job_first : (n job : ℕ) (rest : List (ℕ × ℕ)) → job_or_zero n ((n, job) ∷ rest) ≡ job
job_first n job rest = cond-true (n == n) _ _ (eq-eqb n n refl)

pub without_second : (n j k l : ℕ) (rest : List (ℕ × ℕ)) → (n == k) ≡ false → without k ((n, j) ∷ (k, l) ∷ rest) ≡ (n, j) ∷ rest
without_second n j k l rest other =
    cond-false (n == k) _ _ other ∙ ap (λ (xs : List (ℕ × ℕ)). (n, j) ∷ xs) (without_first k l rest)

pub job_second : (n j k l : ℕ) (rest : List (ℕ × ℕ)) → (n == k) ≡ false → job_or_zero k ((n, j) ∷ (k, l) ∷ rest) ≡ l
job_second n j k l rest other = cond-false (n == k) _ _ other ∙ job_first k l rest

-- ---- which are enabled, where counts alone are fences

pub record CountsFence (fence : ℕ → Bool) : Type 0 where
  pub count : (j : ℕ) → j < 35 → is_count j ≡ true → fence j ≡ true
  pub bell : fence 32 ≡ false
  pub block : fence 34 ≡ false

module _ (fence : ℕ → Bool) (fences : CountsFence fence) where
  -- nothing is enabled from a count on that isn't first
  behind_count : (window n count k : ℕ) → CountsAt n → is_free fence false window (requests_from n count) k ≡ false
  behind_count zero n count k counts = refl
  behind_count (suc window) n zero k counts = refl
  behind_count (suc window) n (suc count) k counts =
      let is = fences.count (request_job n) counts.low counts.counts in
      by_bool (n == k) (λ b. (if b then not (fence (request_job n)) else (if fence (request_job n) then false else is_free fence false window (requests_from (n + 1) count) k)) ≡ false)
      (λ same. ap not is) (λ other. cond-true (fence (request_job n)) _ _ is)

  -- of these requests, k is the first, or the block behind a bell that stands first
  pub free_from : (n count k : ℕ) → is_free fence true 4 (requests_from n count) k ≡ true
      → ((k ≡ n) × (1 ≤ count)) ⊎ (RingsAt n × (k ≡ n + 1) × (2 ≤ count))
  free_from n zero k free = absurd (false≢true free)
  free_from n (suc count) k free =
      by_bool (n == k) (λ b. (n == k) ≡ b → (if b then true else (if fence (request_job n) then false else is_free fence false 3 (requests_from (n + 1) count) k)) ≡ true
      → ((k ≡ n) × (1 ≤ suc count)) ⊎ (RingsAt n × (k ≡ n + 1) × (2 ≤ suc count)))
      (λ same e h. inl (sym (eqb-true n k e), omega arith)) (λ other e h. inr (later (kind n) h)) refl free
    where
      second : RingsAt n → (rest : ℕ) → is_free fence false 3 (requests_from (n + 1) rest) k ≡ true → (k ≡ n + 1) × (1 ≤ rest)
      second rings zero h = absurd (false≢true h)
      second rings (suc rest) h =
          let block = block_after n rings in
          let is = ap fence block.job ∙ fences.block in
          by_bool (n + 1 == k) (λ b. (n + 1 == k) ≡ b → (if b then not (fence (request_job (n + 1))) else (if fence (request_job (n + 1)) then false else is_free fence false 2 (requests_from (n + 1 + 1) rest) k)) ≡ true → (k ≡ n + 1) × (1 ≤ suc rest))
          (λ same e f. (sym (eqb-true (n + 1) k e), omega arith))
          (λ other e f. absurd (false≢true (sym (behind_count 2 (n + 1 + 1) rest k (count_after (n + 1) block)) ∙ sym (cond-false (fence (request_job (n + 1))) _ _ is) ∙ f))) refl h

      later : CountsAt n ⊎ (RingsAt n ⊎ WritesAt n) → (if fence (request_job n) then false else is_free fence false 3 (requests_from (n + 1) count) k) ≡ true
          → RingsAt n × (k ≡ n + 1) × (2 ≤ suc count)
      later (inl counts) h =
          absurd (false≢true (sym (cond-true (fence (request_job n)) _ _ (fences.count (request_job n) counts.low counts.counts)) ∙ h))
      later (inr (inl rings)) h =
          let found = second rings count (sym (cond-false (fence (request_job n)) _ _ (ap fence rings.job ∙ fences.bell)) ∙ h) in
          let some : 1 ≤ count = found.1 in (rings, found.0, omega arith)
      later (inr (inr writes)) h =
          absurd (false≢true (sym (behind_count 3 (n + 1) count k (count_after n writes)) ∙ sym (cond-false (fence (request_job n)) _ _ (ap fence writes.job ∙ fences.block)) ∙ h))

  -- of a bell and the requests from two further on, only the bell is enabled
  pub free_around : (n count k : ℕ) → RingsAt n → is_free fence true 4 ((n, 32) ∷ requests_from (n + 2) count) k ≡ true → k ≡ n
  free_around n count k rings free =
      by_bool (n == k) (λ b. (n == k) ≡ b → (if b then true else (if fence 32 then false else is_free fence false 3 (requests_from (n + 2) count) k)) ≡ true → k ≡ n)
      (λ same e h. sym (eqb-true n k e))
      (λ other e h. absurd (false≢true (sym (behind_count 3 (n + 2) count k two_on) ∙ sym (cond-false (fence 32) _ _ fences.bell) ∙ h))) refl free
    where
      two_on : CountsAt (n + 2)
      two_on = let same : n + 1 + 1 ≡ n + 2 = omega arith in subst CountsAt same (count_after (n + 1) (block_after n rings))
