-- What every legal list keeps of the queues, fact by fact.
use Rattle.std.proofs.Common.{false, arith, ⊎_elim, ◌≡◌, ℕ, ◌<◌, ◌≤◌, true, length, List, ap, ◌∙◌}
use Rattle.vfm_types.specs.declared.desc.Desc.{Desc}
use Rattle.vfm_types.specs.declared.entry.Entry.{Entry}
use Rattle.vfm_types.specs.Desc.{device_count, shape_at}
use Rattle.vfm_types.specs.Requests.{job_or_zero}
use Rattle.vfm_types.specs.Outstanding.{outstanding_of, is_undelivered, is_outstanding, outstanding_job_or_zero}
use Rattle.vfm_types.specs.Words.{has_fence}
use Rattle.vfm_types.specs.Valid.{IsValid}
use Rattle.vfm_plain.specs.Legal.{IsLegal}
use Rattle.vfm_laws.specs.Queues.{device_after, waiting, is_listed, IsPrefixOf, IsGone, AllOnce, QueueKept}
use Rattle.std.proofs.lemmas.Bool.{false_from_ne_true, both_ways, cases_lt}
use Rattle.vfm_types.specs.Machine.{DeviceState}
use Rattle.vfm_laws.proofs.Rising.{job_front, rising_listed, listed_front}
use Rattle.vfm_laws.proofs.Waiting.{undelivered_listed, undelivered_job, not_outstanding}
use Rattle.vfm_laws.proofs.KeptQueues.{keeps_queues}

module _ (D : Desc) (past : List Entry) (d : ℕ) (valid : IsValid D) (legal : IsLegal D past) (inside : d < device_count D) where
  pub within_budget : (device_after D d past).accepted ≤ (shape_at D d).budget
  within_budget = ((keeps_queues D valid past legal).1 d inside).budget

  pub waiting_first : IsPrefixOf (waiting (outstanding_of D d past)) (device_after D d past).pending
  waiting_first = let kept = (keeps_queues D valid past legal).1 d inside in (kept.rest, kept.pending)

  pub within_window : length (outstanding_of D d past) ≤ (shape_at D d).window
  within_window = ((keeps_queues D valid past legal).1 d inside).window

  pub fence_alone : has_fence D d (outstanding_of D d past) ≡ true → length (outstanding_of D d past) ≤ 1
  fence_alone = ((keeps_queues D valid past legal).1 d inside).alone

  pub same_job : (n : ℕ) → is_undelivered n (outstanding_of D d past) ≡ true
      → job_or_zero n (device_after D d past).pending ≡ outstanding_job_or_zero n (outstanding_of D d past)
  same_job n undelivered =
      let kept = (keeps_queues D valid past legal).1 d inside in
      let requests = outstanding_of D d past in
      ap (job_or_zero n) kept.pending ∙ job_front n (waiting requests) kept.rest (undelivered_listed n requests undelivered) ∙ undelivered_job n requests undelivered

  pub numbers_once : AllOnce (outstanding_of D d past)
  numbers_once = ((keeps_queues D valid past legal).1 d inside).once

  pub numbers_below : (n : ℕ) → is_outstanding n (outstanding_of D d past) ≡ true → n < (device_after D d past).accepted
  numbers_below n out = ⊎_elim (λ (h : n < (device_after D d past).accepted). h) (λ (h : (device_after D d past).accepted ≤ n). absurd (beyond h)) (cases_lt n (device_after D d past).accepted)
    where
      device : DeviceState
      device = device_after D d past

      kept : QueueKept D d device (outstanding_of D d past)
      kept = (keeps_queues D valid past legal).1 d inside

      beyond : device.accepted ≤ n → ⊥
      beyond h =
          let unlisted : is_listed n (waiting (outstanding_of D d past)) ≡ false =
          false_from_ne_true (is_listed n (waiting (outstanding_of D d past)))
          (λ listed. let low : n < device.accepted = rising_listed n 0 device.pending device.accepted kept.rising
          (ap (is_listed n) kept.pending ∙ listed_front n (waiting (outstanding_of D d past)) kept.rest listed) in omega arith) in
          let gone_never : IsGone device n → ⊥ = λ gone. let low : n < device.accepted = gone.0 in omega arith in
          both_ways (is_outstanding n (outstanding_of D d past)) (not_outstanding (IsGone device) n (outstanding_of D d past) kept.gone gone_never unlisted) out
