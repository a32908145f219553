-- What doing an enabled request makes of a device's progress: the first that isn't done, or the block behind a bell.
use Rattle.std.proofs.Common.{◌≡◌, ℕ, suc, ◌+◌, ◌-◌, ◌<◌, ◌≤◌, ◌==◌, Bool, true, false, List, [], ◌∷◌, ◌++◌, refl, ap, ap₂, sym, ◌∙◌, subst, arith, ne_eqb, ◌⊎◌, inl, inr, ⊎_elim}
use Rattle.std.proofs.lemmas.Bool.{le-leb}
use Rattle.vfm_types.specs.Requests.{is_free, without, job_or_zero, fences}
use Rattle.vfm_types.specs.Job.{is_fence}
use Rattle.vfm_loads.specs.Generated.{generated}
use Rattle.vfm_loads.proofs.Numbers.{request_job, CountsAt, RingsAt, WritesAt, job_late, kind, block_after, bells, bells_count, bells_ring, bells_block, block_below, block_there}
use Rattle.vfm_loads.proofs.Parts.{job_is, bell_is, block_is}
use Rattle.vfm_loads.proofs.Waiting.{requests_from, one_request_more, without_first, without_second, job_first, job_second, CountsFence, free_from, free_around}
use Rattle.vfm_loads.proofs.Progress.{Progress, first_of, done_at, pending_at, has_written, Stands, own_after, own_ring, own_block, count_of}
use Rattle.vfm_loads.proofs.Progress.Progress.{Upto, Around}

pub record CountTurn (p : Progress) (n : ℕ) (after : Progress) : Type 0 where
  pub counts : CountsAt n
  pub first : first_of p ≡ n
  pub next : first_of after ≡ n + 1
  pub bells : bells (first_of after) ≡ bells (first_of p)
  pub written : has_written after ≡ has_written p

pub record RingTurn (p : Progress) (n : ℕ) (after : Progress) : Type 0 where
  pub rings : RingsAt n
  pub own : (N d : ℕ) → own_after N d (first_of after) ≡ own_after N d (first_of p)
  pub bells : bells (first_of after) ≡ bells (first_of p) + 1
  pub written : has_written after ≡ has_written p

pub record BlockTurn (p : Progress) (n : ℕ) (after : Progress) : Type 0 where
  pub writes : WritesAt n
  pub own : (N d : ℕ) → own_after N d (first_of after) ≡ own_after N d (first_of p)
  pub bells : bells (first_of after) ≡ bells (first_of p)
  pub written : has_written after ≡ true

abbrev pub TurnKind : Progress → ℕ → Progress → Type 0
TurnKind p n after = CountTurn p n after ⊎ (RingTurn p n after ⊎ BlockTurn p n after)

-- request n is done, of a device that has accepted so many
pub record Turn (accepted : ℕ) (p : Progress) (n : ℕ) (after : Progress) : Type 0 where
  pub job : job_or_zero n (pending_at p accepted) ≡ request_job n
  pub rest : without n (pending_at p accepted) ≡ pending_at after accepted
  pub done : done_at p + 1 ≡ done_at after
  pub stands : Stands after accepted
  pub kind : TurnKind p n after

-- the first that isn't done, where none behind it is
module _ (k accepted : ℕ) (some : 1 ≤ accepted - k) where
  first_kind : CountsAt k ⊎ (RingsAt k ⊎ WritesAt k) → TurnKind (Upto k) k (Upto (k + 1))
  first_kind (inl counts) =
      inl (record { counts = counts; first = refl; next = refl; bells = bells_count k counts; written = block_below k (inl counts) })
  first_kind (inr (inl rings)) =
      inr (inl (record { rings = rings; own = λ N d. own_ring N d k rings; bells = bells_ring k rings; written = block_below k (inr rings) }))
  first_kind (inr (inr writes)) =
      inr (inr (record { writes = writes; own = λ N d. own_block N d k writes; bells = bells_block k writes; written = block_there k writes }))

  pub turn_first : Turn accepted (Upto k) k (Upto (k + 1))
  turn_first =
      let size : accepted - k ≡ suc (accepted - (k + 1)) = omega arith in
      let shape : requests_from k (accepted - k) ≡ (k, request_job k) ∷ requests_from (k + 1) (accepted - (k + 1)) = ap (requests_from k) size in
      record {
        job = ap (job_or_zero k) shape ∙ job_first k (request_job k) (requests_from (k + 1) (accepted - (k + 1)));
        rest = ap (without k) shape ∙ without_first k (request_job k) (requests_from (k + 1) (accepted - (k + 1)));
        done = refl;
        stands = omega arith;
        kind = first_kind (kind k);
      }

-- the block behind a bell
module _ (k accepted : ℕ) (rings : RingsAt k) (some : 2 ≤ accepted - k) where
  rest_from : List (ℕ × ℕ)
  rest_from = requests_from (k + 2) (accepted - (k + 2))

  two_first : requests_from k (accepted - k) ≡ (k, 32) ∷ (k + 1, 34) ∷ rest_from
  unfolding rest_from
  two_first =
      let size : accepted - k ≡ suc (suc (accepted - (k + 2))) = omega arith in
      let place : k + 1 + 1 ≡ k + 2 = omega arith in
      ap (requests_from k) size
      ∙ ap₂ (λ (i j : ℕ). (k, i) ∷ (k + 1, j) ∷ requests_from (k + 1 + 1) (accepted - (k + 2))) rings.job (block_after k rings).job
      ∙ ap (λ (l : ℕ). (k, 32) ∷ (k + 1, 34) ∷ requests_from l (accepted - (k + 2))) place

  pub turn_block : Turn accepted (Upto k) (k + 1) (Around k)
  unfolding rest_from
  turn_block =
      let other : (k == k + 1) ≡ false = ne_eqb k (k + 1) (λ (same : k ≡ k + 1). omega arith) in
      record {
        job = ap (job_or_zero (k + 1)) two_first ∙ job_second k 32 (k + 1) 34 rest_from other ∙ sym (block_after k rings).job;
        rest = ap (without (k + 1)) two_first ∙ without_second k 32 (k + 1) 34 rest_from other;
        done = refl;
        stands = (rings, omega arith);
        kind = inr (inr (record { writes = block_after k rings; own = λ N d. refl; bells = refl; written = refl }));
      }

-- the bell before a block that is done
pub turn_bell : (k accepted : ℕ) → RingsAt k → k + 2 ≤ accepted → Turn accepted (Around k) k (Upto (k + 2))
turn_bell k accepted rings within =
    let rest = requests_from (k + 2) (accepted - (k + 2)) in
    let place : k + 2 ≡ k + 1 + 1 = omega arith in
    let block = block_after k rings in
    let low = rings.place in
    let far : 34 ≤ k + 2 = omega (arith, low) in
    record {
      job = job_first k 32 rest ∙ sym rings.job;
      rest = without_first k 32 rest;
      done = omega arith;
      stands = within;
      kind = inr (inl (record {
        rings = rings;
        own = λ N d. ap (own_after N d) place ∙ own_block N d (k + 1) block ∙ own_ring N d k rings;
        bells = ap bells place ∙ bells_block (k + 1) block ∙ bells_ring k rings;
        written = le-leb 34 (k + 2) far;
      }));
    }

-- an enabled request is one of these
pub turn_of : (fence : ℕ → Bool) → CountsFence fence → (accepted : ℕ) (p : Progress) (n : ℕ) → Stands p accepted
    → is_free fence true 4 (pending_at p accepted) n ≡ true → (after : Progress) × Turn accepted p n after
turn_of fence counts accepted (Upto k) n stands free =
    ⊎_elim (λ (first : (n ≡ k) × (1 ≤ accepted - k)). (Upto (k + 1), subst (λ (i : ℕ). Turn accepted (Upto k) i (Upto (k + 1))) (sym first.0) (turn_first k accepted first.1)))
    (λ (second : RingsAt k × (n ≡ k + 1) × (2 ≤ accepted - k)).
    (Around k, subst (λ (i : ℕ). Turn accepted (Upto k) i (Around k)) (sym second.1) (turn_block k accepted second.0 second.2)))
    (free_from fence counts k (accepted - k) n free)
turn_of fence counts accepted (Around k) n stands free =
    let same = free_around fence counts k (accepted - (k + 2)) n stands.0 free in
    (Upto (k + 2), subst (λ (i : ℕ). Turn accepted (Around k) i (Upto (k + 2))) (sym same) (turn_bell k accepted stands.0 stands.1))

-- counts alone are fences
pub load_fences : (N d : ℕ) → d < 8 → CountsFence (fences (generated N) d)
load_fences N d device = record {
  count = λ j low counts. ap is_fence (job_is N d j device low ∙ (count_of N d j device counts).job);
  bell = ap is_fence (job_is N d 32 device (omega arith) ∙ bell_is N d);
  block = ap is_fence (job_is N d 34 device (omega arith) ∙ block_is N d);
}

-- ---- one request more accepted

pub stands_more : (p : Progress) (low high : ℕ) → low ≤ high → Stands p low → Stands p high
stands_more (Upto n) low high below stands = omega arith
stands_more (Around n) low high below stands = let within = stands.1 in (stands.0, omega (arith, within))

pub pending_grown : (p : Progress) (accepted : ℕ) → Stands p accepted → 1088 ≤ accepted → pending_at p (accepted + 1) ≡ pending_at p accepted ++ (accepted, 33) ∷ []
pending_grown (Upto n) accepted stands late =
    let size : accepted + 1 - n ≡ accepted - n + 1 = omega arith in
    let place : n + (accepted - n) ≡ accepted = omega arith in
    ap (requests_from n) size ∙ one_request_more n (accepted - n)
    ∙ ap (λ (k : ℕ). requests_from n (accepted - n) ++ (k, request_job k) ∷ []) place
    ∙ ap (λ (j : ℕ). requests_from n (accepted - n) ++ (accepted, j) ∷ []) (job_late accepted late)
pending_grown (Around n) accepted stands late =
    let within = stands.1 in
    let size : accepted + 1 - (n + 2) ≡ accepted - (n + 2) + 1 = omega (arith, within) in
    let place : n + 2 + (accepted - (n + 2)) ≡ accepted = omega (arith, within) in
    ap (λ (rest : List (ℕ × ℕ)). (n, 32) ∷ rest)
    (ap (requests_from (n + 2)) size ∙ one_request_more (n + 2) (accepted - (n + 2))
    ∙ ap (λ (k : ℕ). requests_from (n + 2) (accepted - (n + 2)) ++ (k, request_job k) ∷ []) place
    ∙ ap (λ (j : ℕ). requests_from (n + 2) (accepted - (n + 2)) ++ (accepted, j) ∷ []) (job_late accepted late))
