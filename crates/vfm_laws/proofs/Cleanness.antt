-- Legal runs are clean.
use Rattle.std.proofs.Common.{◌≡◌, ℕ, ◌<◌, ◌+◌, ◌/◌, ◌%◌, ◌==◌, Bool, true, false, not, ◌&&◌, ◌||◌, if◌then◌else◌, List, [], ◌∷◌, nat_le, nat_lt, Some, None, unwrap_or, refl, ap, sym, ◌∙◌, subst, ltb-true}
use Rattle.std.proofs.lemmas.Bool.{and_parts, and_from, or_left, or_right, not_from_false, both_ways, false≢true, true_from_ne_false, false_from_ne_true}
use Rattle.std.specs.List.{list_any}
use Rattle.vfm_types.specs.declared.job.Job.{Job}
use Rattle.vfm_types.specs.declared.job.Region.{Region}
use Rattle.vfm_types.specs.declared.job.Region.TheVariants.{Page, Bar}
use Rattle.vfm_types.specs.declared.desc.Desc.{Desc}
use Rattle.vfm_types.specs.declared.entry.Entry.{Entry}
use Rattle.vfm_types.specs.declared.entry.Entry.TheVariants.{Deliver}
use Rattle.vfm_types.specs.Desc.{device_count, shape_at, job_at, bar_size}
use Rattle.vfm_types.specs.Region.{is_in_page, is_in_bar, bar_base, bar_owner, bar_number, bar_offset, offset_in_bars}
use Rattle.vfm_types.specs.Job.{address_of, length_of, place_of, page_zero_if_nowhere, is_bar, is_aimed_at_bar}
use Rattle.vfm_types.specs.Machine.{device_of}
use Rattle.vfm_types.specs.Requests.{job_or_zero, job_of}
use Rattle.vfm_types.specs.Deliveries.{machine_of}
use Rattle.vfm_types.specs.Outstanding.{Outstanding, outstanding_of, is_undelivered, outstanding_job_or_zero}
use Rattle.vfm_types.specs.Arcs.{state_of, is_running, is_stopped}
use Rattle.vfm_types.specs.Words.{is_barred, has_barred}
use Rattle.vfm_types.specs.Valid.{IsValid}
use Rattle.vfm_plain.specs.Legal.{IsLegal}
use Rattle.vfm_plain.specs.Clean.{IsClean, is_awake}
use Rattle.vfm_laws.specs.Standing.{is_quiet_state}
use Rattle.vfm_laws.proofs.Rising.{by_bool}
use Rattle.vfm_laws.proofs.Conditions.{deliver_met}
use Rattle.vfm_laws.proofs.Steps.{running_wild}
use Rattle.vfm_laws.proofs.QueueLaws.{same_job}
use Rattle.vfm_laws.proofs.KeptStates.{keeps_states}

page_bar : (p t : ℕ) → Page p ≡ Bar t → ⊥
page_bar p t same = cc

bar_same : (s t : ℕ) → Bar s ≡ Bar t → s ≡ t
bar_same s t same = cc

-- only devices of the description have BARs that a job can be aimed at
pub bar_inside : (D : Desc) (job : Job) (t : ℕ) → (place_of D job).region ≡ Bar t → t < device_count D
bar_inside D job t aimed =
    by_bool (is_in_page D at len)
    (λ b. (unwrap_or (if b then Some (record { region = Page (at / D.page); offset = at % D.page })
    else (if is_in_bar D at len then Some (record { region = Bar (bar_owner at); offset = offset_in_bars D at }) else None)) page_zero_if_nowhere).region ≡ Bar t
    → t < device_count D)
    (λ page h. absurd (page_bar (at / D.page) t h))
    (λ beyond h. by_bool (is_in_bar D at len)
    (λ c. is_in_bar D at len ≡ c → (unwrap_or (if c then Some (record { region = Bar (bar_owner at); offset = offset_in_bars D at }) else None) page_zero_if_nowhere).region ≡ Bar t
    → t < device_count D)
    (λ bar e g. subst (λ (k : ℕ). k < device_count D) (bar_same (bar_owner at) t g)
    (ltb-true (bar_owner at) (device_count D)
    (and_parts (nat_le bar_base at) (nat_lt (bar_owner at) (device_count D))
    (and_parts (nat_le bar_base at && nat_lt (bar_owner at) (device_count D)) (nat_le (bar_offset at + len) (bar_size (shape_at D (bar_owner at)) (bar_number at))) e).0).1))
    (λ nowhere e g. absurd (page_bar 0 t g)) refl h)
    aimed
  where
    at : ℕ
    at = address_of job

    len : ℕ
    len = length_of job

-- a test that the job of an undelivered request passes, one of the outstanding requests passes
test_outstanding : (test : ℕ → Bool) (n : ℕ) (requests : List Outstanding) → is_undelivered n requests ≡ true
    → test (outstanding_job_or_zero n requests) ≡ true → list_any (λ r. test r.job) requests ≡ true
test_outstanding test n [] undelivered passes = absurd (false≢true undelivered)
test_outstanding test n (r ∷ requests) undelivered passes =
    by_bool (r.number == n)
    (λ b. (if b then not r.is_delivered else is_undelivered n requests) ≡ true → test (if b then r.job else outstanding_job_or_zero n requests) ≡ true
    → (test r.job || list_any (λ q. test q.job) requests) ≡ true)
    (λ same h g. or_left (test r.job) (list_any (λ q. test q.job) requests) g)
    (λ other h g. or_right (test r.job) (list_any (λ q. test q.job) requests) (test_outstanding test n requests h g))
    undelivered passes

module _ (D : Desc) (valid : IsValid D) (past : List Entry) (d n : ℕ) (legal : IsLegal D (Deliver d n ∷ past)) where
  issuer : d < device_count D
  issuer = ltb-true d (device_count D) legal.0

  undelivered : is_undelivered n (outstanding_of D d past) ≡ true
  undelivered = deliver_met D past d n legal.1

  -- the issuer of a request that is delivered isn't stopped
  pub issuer_awake : is_stopped (state_of d past) ≡ false
  issuer_awake = false_from_ne_true (is_stopped (state_of d past))
      (λ still. false≢true (sym (ap (is_undelivered n) (((keeps_states D valid past legal.2).0 d issuer).still still)) ∙ undelivered))

  -- nor is the device whose BARs it is aimed at
  pub target_awake : (t : ℕ) → (place_of D (job_of D (machine_of D past) d n)).region ≡ Bar t → is_stopped (state_of t past) ≡ false
  target_awake t aimed = false_from_ne_true (is_stopped (state_of t past)) asleep
    where
      requests : List Outstanding
      requests = outstanding_of D d past

      job : job_or_zero n (device_of (machine_of D past) d).pending ≡ outstanding_job_or_zero n requests
      job = same_job D past d valid legal.2 issuer n undelivered

      barred : is_barred D d (job_at D d (outstanding_job_or_zero n requests)) ≡ true
      barred = or_left (is_aimed_at_bar D (job_at D d (outstanding_job_or_zero n requests))) (not (shape_at D d).tells)
          (ap (λ (j : ℕ). is_aimed_at_bar D (job_at D d j)) (sym job) ∙ ap is_bar aimed)

      some : has_barred D d requests ≡ true
      some = test_outstanding (λ j. is_barred D d (job_at D d j)) n requests undelivered barred

      running : is_running (state_of d past) ≡ true
      running = true_from_ne_false (is_running (state_of d past))
          (λ slow. both_ways (has_barred D d requests) (((keeps_states D valid past legal.2).0 d issuer).unbarred slow) some)

      asleep : is_stopped (state_of t past) ≡ true → ⊥
      asleep still = both_ways (is_quiet_state (state_of d past)) (running_wild (state_of d past) running)
          ((keeps_states D valid past legal.2).1 t d (bar_inside D (job_of D (machine_of D past) d n) t aimed) issuer still)

-- a region is awake where it is no stopped device's BARs
region_awake : (region : Region) (past : List Entry) → ((t : ℕ) → region ≡ Bar t → is_stopped (state_of t past) ≡ false) → is_awake region past ≡ true
region_awake (Page p) past each = refl
region_awake (Bar t) past each = not_from_false (is_stopped (state_of t past)) (each t refl)

pub legal_clean : (D : Desc) → IsValid D → (past : List Entry) → IsLegal D past → IsClean D past
legal_clean D valid [] legal = tt
legal_clean D valid (Deliver d n ∷ past) legal = (
  and_from (not (is_stopped (state_of d past))) (is_awake (place_of D (job_of D (machine_of D past) d n)).region past)
      (not_from_false (is_stopped (state_of d past)) (issuer_awake D valid past d n legal))
      (region_awake (place_of D (job_of D (machine_of D past) d n)).region past (target_awake D valid past d n legal)),
  legal_clean D valid past legal.2,
)
legal_clean D valid (entry ∷ past) legal = (refl, legal_clean D valid past legal.2)
