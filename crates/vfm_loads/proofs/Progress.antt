-- How far a generated load has come: each device by which of its requests are done. The machine is a function of that.
use Rattle.std.proofs.Common.{◌≡◌, ℕ, zero, suc, ◌+◌, ◌-◌, ◌*◌, ◌/◌, ◌%◌, ◌<◌, ◌≤◌, ◌==◌, Bool, true, false, if◌then◌else◌, nat_lt, nat_le, List, ◌∷◌, length, take, drop, replicate, refl, ap, ap₂, sym, ◌∙◌, subst, arith, add-one, eq-eqb, ne_eqb, ⊎_elim, Some}
use Rattle.std.proofs.lemmas.Bool.{cond-true, cond-false, cases_eq, ltb-true, eqb-true, or_cases}
use Rattle.vfm_types.specs.declared.job.Job.TheVariants.{Add}
use Rattle.vfm_types.specs.declared.job.Region.TheVariants.{Page}
use Rattle.vfm_types.specs.Region.{region_of}
use Rattle.vfm_types.specs.Machine.{DeviceState, Machine, device_of, splice, added}
use Rattle.vfm_types.specs.Deliveries.{page_bytes}
use Rattle.vfm_loads.specs.Generated.{peer_of, peer_before, own_pages, load_job, generated}
use Rattle.vfm_loads.proofs.Numbers.{request_job, is_count, CountsAt, RingsAt, WritesAt, bells}
use Rattle.vfm_loads.proofs.Parts.{count_is, rung_is}
use Rattle.vfm_loads.proofs.LoadValid.{count_place, rung_place}
use Rattle.vfm_loads.proofs.Waiting.{requests_from}

-- which requests of a device are done
pub data Progress : Type 0 where
  -- all below a number, and no other
  Upto : ℕ → Progress
  -- all below the number of a bell, and the block behind that
  Around : ℕ → Progress

-- the least request that isn't done
abbrev pub first_of : Progress → ℕ
first_of (Upto n) = n
first_of (Around n) = n

abbrev pub done_at : Progress → ℕ
done_at (Upto n) = n
done_at (Around n) = n + 1

-- the pending requests of a device that has accepted so many
abbrev pub pending_at : Progress → ℕ → List (ℕ × ℕ)
pending_at (Upto n) accepted = requests_from n (accepted - n)
pending_at (Around n) accepted = (n, 32) ∷ requests_from (n + 2) (accepted - (n + 2))

-- how many requests the peer has accepted: those at the start, and one for each bell
abbrev pub accepted_at : Progress → ℕ
accepted_at p = 1088 + bells (first_of p)

-- a block was written
abbrev pub has_written : Progress → Bool
has_written (Upto n) = nat_le 34 n
has_written (Around n) = true

-- such a progress is possible
abbrev pub Stands : Progress → ℕ → Type 0
Stands (Upto n) accepted = n ≤ accepted
Stands (Around n) accepted = RingsAt n × (n + 2 ≤ accepted)

-- ---- a device's own pages and its buffer, which its counts alone change

pub record Own : Type 0 where
  pub page : ℕ → List ℕ
  pub buf : List ℕ

unfoldable pub own_start : Own
own_start = record { page = λ q. replicate 4096 0; buf = replicate 64 0 }

abbrev pub counted : Own → ℕ → ℕ → ℕ → Own
counted own q offset value =
    let old = take 8 (drop offset (own.page q)) in
    record { page = λ k. if k == q then splice (own.page q) offset (added old value) else own.page k; buf = splice own.buf 0 old }

-- the page, the offset in it and the value of count j of device d
abbrev pub count_page : ℕ → ℕ → ℕ
count_page d j = if j == 33 then own_pages d else own_pages d + j

abbrev pub count_offset : ℕ → ℕ → ℕ
count_offset N j = if j == 33 then 0 else 8 * ((N + j) % 512)

abbrev pub count_value : ℕ → ℕ → ℕ → ℕ
count_value N d j = if j == 33 then 1 else N + d + j + 1

abbrev pub own_next : ℕ → ℕ → ℕ → Own → Own
own_next N d j own = if is_count j then counted own (count_page d j) (count_offset N j) (count_value N d j) else own

-- after its requests below a number
unfoldable pub own_after : ℕ → ℕ → ℕ → Own
own_after N d zero = own_start
own_after N d (suc n) = own_next N d (request_job n) (own_after N d n)

pub own_zero : (N d : ℕ) → own_after N d 0 ≡ own_start
unfolding own_after
own_zero N d = refl

own_suc : (N d n : ℕ) → own_after N d (n + 1) ≡ own_next N d (request_job n) (own_after N d n)
unfolding own_after
own_suc N d n = ap (own_after N d) (add-one n)

pub own_count : (N d n : ℕ) → CountsAt n
    → own_after N d (n + 1) ≡ counted (own_after N d n) (count_page d (request_job n)) (count_offset N (request_job n)) (count_value N d (request_job n))
own_count N d n counts = own_suc N d n ∙ cond-true (is_count (request_job n)) _ _ counts.counts

pub own_ring : (N d n : ℕ) → RingsAt n → own_after N d (n + 1) ≡ own_after N d n
own_ring N d n rings = own_suc N d n ∙ ap (λ (j : ℕ). own_next N d j (own_after N d n)) rings.job

pub own_block : (N d n : ℕ) → WritesAt n → own_after N d (n + 1) ≡ own_after N d n
own_block N d n writes = own_suc N d n ∙ ap (λ (j : ℕ). own_next N d j (own_after N d n)) writes.job

-- what a count is, and where
pub record IsCountOf (N d j : ℕ) : Type 0 where
  pub at : ℕ
  pub job : load_job N d j ≡ Add at (count_value N d j)
  pub place : region_of (generated N) at 8 ≡ Some (record { region = Page (count_page d j); offset = count_offset N j })
  pub own : count_page d j / 32 ≡ d
  pub there : count_page d j < 256

pub count_of : (N d j : ℕ) → d < 8 → is_count j ≡ true → IsCountOf N d j
count_of N d j device counts =
    ⊎_elim (λ (low : nat_lt j 32 ≡ true). usual (ltb-true j 32 low)) (λ (rung : (j == 33) ≡ true). last (eqb-true j 33 rung)) (or_cases (nat_lt j 32) (j == 33) counts)
  where
    usual : j < 32 → IsCountOf N d j
    usual below =
        let other : (j == 33) ≡ false = ne_eqb j 33 (λ (same : j ≡ 33). omega arith) in
        let page : count_page d j ≡ own_pages d + j = cond-false (j == 33) _ _ other in
        let offset : count_offset N j ≡ 8 * ((N + j) % 512) = cond-false (j == 33) _ _ other in
        let value : count_value N d j ≡ N + d + j + 1 = cond-false (j == 33) _ _ other in
        record {
          at = (own_pages d + j) * 4096 + 8 * ((N + j) % 512);
          job = count_is N d j below ∙ ap (Add ((own_pages d + j) * 4096 + 8 * ((N + j) % 512))) (sym value);
          place = count_place N d j device below ∙ ap₂ (λ (q o : ℕ). Some (record { region = Page q; offset = o })) (sym page) (sym offset);
          own = ap (λ (q : ℕ). q / 32) page ∙ omega arith;
          there = subst (λ (q : ℕ). q < 256) (sym page) (omega arith);
        }

    last : j ≡ 33 → IsCountOf N d j
    last same =
        subst (IsCountOf N d) (sym same) (record {
          at = own_pages d * 4096;
          job = rung_is N d;
          place = rung_place N d device;
          own = omega arith;
          there = omega arith;
        })

-- ---- the machine

abbrev pub page_at : ℕ → ℕ → Progress → ℕ → List ℕ
page_at N d p q = (own_after N d (first_of p)).page q

-- the bytes of the block in the BAR of device d, and the BAR with and without it
abbrev pub block_bytes_of : ℕ → List ℕ
block_bytes_of d = replicate 64 (peer_before d + 1)

unfoldable pub bar_start : List ℕ
bar_start = replicate 4096 0

abbrev pub bar_at : ℕ → ℕ → Bool → List ℕ
bar_at N d written = if written then splice bar_start (64 + 64 * (N % 32)) (block_bytes_of d) else bar_start

-- device d, with its own progress and that of the device before it
abbrev pub device_at : ℕ → ℕ → Progress → Progress → DeviceState
device_at N d p before =
    record {
      bar = bar_at N d (has_written before);
      pending = pending_at p (accepted_at before);
      buf = (own_after N d (first_of p)).buf;
      accepted = accepted_at before;
      done = done_at p;
      lost = 0;
    }

-- the machine is that of these progresses
pub record IsAt (N : ℕ) (ps : ℕ → Progress) (m : Machine) : Type 0 where
  pub pages : length m.pages ≡ 256
  pub devices : length m.devices ≡ 8
  pub page : (q : ℕ) → q < 256 → page_bytes m q ≡ page_at N (q / 32) (ps (q / 32)) q
  pub device : (d : ℕ) → d < 8 → device_of m d ≡ device_at N d (ps d) (ps (peer_before d))
  pub stands : (d : ℕ) → d < 8 → Stands (ps d) (accepted_at (ps (peer_before d)))

-- one device further on
abbrev pub put : (ℕ → Progress) → ℕ → Progress → ℕ → Progress
put ps d p k = if k == d then p else ps k

pub put_same : (ps : ℕ → Progress) (d : ℕ) (p : Progress) → put ps d p d ≡ p
put_same ps d p = cond-true (d == d) _ _ (eq-eqb d d refl)

pub put_other : (ps : ℕ → Progress) (d : ℕ) (p : Progress) (k : ℕ) → (k ≡ d → ⊥) → put ps d p k ≡ ps k
put_other ps d p k other = cond-false (k == d) _ _ (ne_eqb k d other)

-- peers
pub before_peer : (d : ℕ) → d < 8 → peer_before (peer_of d) ≡ d
before_peer d device = omega arith

pub not_peer : (d : ℕ) → d < 8 → peer_of d ≡ d → ⊥
not_peer d device same = omega arith

pub not_before : (d : ℕ) → d < 8 → peer_before d ≡ d → ⊥
not_before d device same = omega arith

pub only_peer : (d k : ℕ) → d < 8 → k < 8 → peer_before k ≡ d → k ≡ peer_of d
only_peer d k device inside same = omega arith

-- ---- what one request more of device d leaves, put together

pub record Steps (N : ℕ) (ps : ℕ → Progress) (m after : Machine) (d : ℕ) (p : Progress) : Type 0 where
  pub pages : length after.pages ≡ 256
  pub devices : length after.devices ≡ 8
  pub own_page : (q : ℕ) → q < 256 → q / 32 ≡ d → page_bytes after q ≡ page_at N d p q
  pub other_page : (q : ℕ) → q < 256 → (q / 32 ≡ d → ⊥) → page_bytes after q ≡ page_bytes m q
  pub own : device_of after d ≡ device_at N d p (ps (peer_before d))
  pub peer : device_of after (peer_of d) ≡ device_at N (peer_of d) (ps (peer_of d)) p
  pub other : (k : ℕ) → k < 8 → (k ≡ d → ⊥) → (k ≡ peer_of d → ⊥) → device_of after k ≡ device_of m k
  pub stands : Stands p (accepted_at (ps (peer_before d)))
  pub peer_stands : Stands (ps (peer_of d)) (accepted_at p)

module _ (N : ℕ) (ps : ℕ → Progress) (m after : Machine) (d : ℕ) (p : Progress) (device : d < 8) (here : IsAt N ps m) (step : Steps N ps m after d p) where
  page_after : (q : ℕ) → q < 256 → page_bytes after q ≡ page_at N (q / 32) (put ps d p (q / 32)) q
  page_after q inside =
      ⊎_elim (λ (same : q / 32 ≡ d). step.own_page q inside same
      ∙ sym (ap (λ (r : Progress). page_at N d r q) (put_same ps d p))
      ∙ ap (λ (k : ℕ). page_at N k (put ps d p k) q) (sym same))
      (λ (other : q / 32 ≡ d → ⊥). step.other_page q inside other ∙ here.page q inside
      ∙ ap (λ (r : Progress). page_at N (q / 32) r q) (sym (put_other ps d p (q / 32) other))) (cases_eq (q / 32) d)

  -- a fact of each device's progress and of that before it
  each : (Fact : ℕ → Progress → Progress → Type 0) → Fact d p (ps (peer_before d)) → Fact (peer_of d) (ps (peer_of d)) p
      → ((k : ℕ) → k < 8 → (k ≡ d → ⊥) → (k ≡ peer_of d → ⊥) → Fact k (ps k) (ps (peer_before k)))
      → (k : ℕ) → k < 8 → Fact k (put ps d p k) (put ps d p (peer_before k))
  each Fact own peer rest k inside = ⊎_elim first (λ (no_ : k ≡ d → ⊥). ⊎_elim second (third no_) (cases_eq k (peer_of d))) (cases_eq k d)
    where
      first : k ≡ d → Fact k (put ps d p k) (put ps d p (peer_before k))
      first same =
          subst (λ (j : ℕ). Fact j (put ps d p j) (put ps d p (peer_before j))) (sym same)
          (subst (λ (r : Progress). Fact d r (put ps d p (peer_before d))) (sym (put_same ps d p))
          (subst (λ (r : Progress). Fact d p r) (sym (put_other ps d p (peer_before d) (not_before d device))) own))

      second : k ≡ peer_of d → Fact k (put ps d p k) (put ps d p (peer_before k))
      second same =
          subst (λ (j : ℕ). Fact j (put ps d p j) (put ps d p (peer_before j))) (sym same)
          (subst (λ (r : Progress). Fact (peer_of d) r (put ps d p (peer_before (peer_of d)))) (sym (put_other ps d p (peer_of d) (not_peer d device)))
          (subst (λ (j : ℕ). Fact (peer_of d) (ps (peer_of d)) (put ps d p j)) (sym (before_peer d device))
          (subst (λ (r : Progress). Fact (peer_of d) (ps (peer_of d)) r) (sym (put_same ps d p)) peer)))

      third : (k ≡ d → ⊥) → (k ≡ peer_of d → ⊥) → Fact k (put ps d p k) (put ps d p (peer_before k))
      third no_ not =
          subst (λ (r : Progress). Fact k r (put ps d p (peer_before k))) (sym (put_other ps d p k no_))
          (subst (λ (r : Progress). Fact k (ps k) r) (sym (put_other ps d p (peer_before k) (λ same. not (only_peer d k device inside same)))) (rest k inside no_ not))

  pub assembled : IsAt N (put ps d p) after
  assembled = record {
    pages = step.pages;
    devices = step.devices;
    page = page_after;
    device = each (λ k own before. device_of after k ≡ device_at N k own before) step.own step.peer
        (λ k inside no_ not. step.other k inside no_ not ∙ here.device k inside);
    stands = each (λ k own before. Stands own (accepted_at before)) step.stands step.peer_stands (λ k inside no_ not. here.stands k inside);
  }
