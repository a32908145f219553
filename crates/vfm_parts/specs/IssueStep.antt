-- Issue on the parts: the issuing device's own.
use Rattle.std.specs.Prelude.{ℕ, ◌+◌, ◌&&◌, ◌||◌, not, Bool, false, nat_lt, List, [], ◌∷◌, ◌++◌, length}
use Rattle.vfm_types.specs.declared.entry.Rule.TheVariants.{Barred, Start, Turn}
use Rattle.vfm_types.specs.declared.desc.Desc.{Desc}
use Rattle.vfm_types.specs.Desc.{job_at, shape_at}
use Rattle.vfm_types.specs.Requests.{fences, job_or_zero}
use Rattle.vfm_types.specs.Outstanding.{unissued}
use Rattle.vfm_types.specs.Words.{has_fence, is_nothing}
use Rattle.vfm_plain.specs.Condition.{Condition, is_exactly}
use Rattle.vfm_plain.specs.IssueRules.{first_number}
use Rattle.vfm_parts.specs.Parts.{Dev}
use Rattle.vfm_parts.specs.PartWords.{is_job_allowed_in}

-- request n is the one whose turn it is at device d
abbrev pub is_next_to_issue_in : Desc → ℕ → ℕ → Dev → Bool
is_next_to_issue_in D d n dev =
    let pending = dev.plain.pending in
    let requests = dev.requests in
    is_exactly n (first_number (unissued requests pending))
    && nat_lt (length requests) (shape_at D d).window && not (has_fence D d requests)
    && (not (fences D d (job_or_zero n pending)) || is_nothing requests)

-- device d may issue its request n as far as the state goes that governs it
abbrev pub is_request_allowed_in : Desc → ℕ → ℕ → Dev → Bool
is_request_allowed_in D d n dev = is_job_allowed_in D d (job_at D d (job_or_zero n dev.plain.pending)) dev

-- the device may issue at this time: its log is started, or it was released, or it has issued fewer than are wanted
-- before the move
abbrev pub may_issue_yet_in : Desc → Dev → Bool
may_issue_yet_in D dev = dev.logging || dev.released || nat_lt dev.issues D.begin

-- the conditions, in the order in which they are tested
abbrev pub issue_conditions_in : Desc → ℕ → ℕ → Dev → List Condition
issue_conditions_in D d n dev =
    (is_next_to_issue_in D d n dev, Turn) ∷ (is_request_allowed_in D d n dev, Barred) ∷ (may_issue_yet_in D dev, Start) ∷ []

-- the device with its request n outstanding
abbrev pub issued_dev : ℕ → Dev → Dev
issued_dev n dev =
    record dev {
      requests = dev.requests ++ (record { number = n; job = job_or_zero n dev.plain.pending; is_delivered = false }) ∷ [];
      issues = dev.issues + 1;
    }
