-- When a device may put a request on the bus.
use Rattle.std.specs.Prelude.{Bool, List, None, Option, Some, [], length, nat_lt, not, ℕ, ◌&&◌, ◌||◌, ◌∷◌}
use Rattle.vfm_types.specs.declared.entry.Entry.{Entry}
use Rattle.vfm_types.specs.declared.entry.Rule.TheVariants.{Barred, Start, Turn}
use Rattle.vfm_types.specs.declared.desc.Desc.{Desc}
use Rattle.vfm_types.specs.Desc.{job_at, shape_at}
use Rattle.vfm_types.specs.Machine.{device_of}
use Rattle.vfm_types.specs.Requests.{fences, job_or_zero}
use Rattle.vfm_types.specs.Deliveries.{machine_of}
use Rattle.vfm_types.specs.Phases.{is_aborted, is_begun, is_resumed}
use Rattle.vfm_types.specs.Outstanding.{issue_count, outstanding_of, unissued}
use Rattle.vfm_types.specs.Words.{has_fence, is_job_allowed, is_nothing}
use Rattle.vfm_plain.specs.Condition.{Condition, is_exactly}

-- the number of the first of these requests
abbrev pub first_number : List (ℕ × ℕ) → Option ℕ
first_number [] = None
first_number (request ∷ requests) = Some request.0

-- Request n is the one whose turn it is at device d: the first pending one that isn't outstanding, with fewer than
-- `window` outstanding, no fence among them, and, where n is a fence, nothing outstanding.
abbrev pub is_next_to_issue : Desc → ℕ → ℕ → List Entry → Bool
is_next_to_issue D d n past =
    let pending = (device_of (machine_of D past) d).pending in
    let requests = outstanding_of D d past in
    is_exactly n (first_number (unissued requests pending))
    && nat_lt (length requests) (shape_at D d).window && not (has_fence D d requests)
    && (not (fences D d (job_or_zero n pending)) || is_nothing requests)

-- device d may issue its request n as far as the state goes that governs it
abbrev pub is_request_allowed : Desc → ℕ → ℕ → List Entry → Bool
is_request_allowed D d n past = is_job_allowed D d (job_at D d (job_or_zero n (device_of (machine_of D past) d).pending)) past

-- device d may issue at this time: the move has begun, or was given up or taken over, or d has issued fewer than are
-- wanted before the move
abbrev pub may_issue_yet : Desc → ℕ → List Entry → Bool
may_issue_yet D d past = is_begun past || is_aborted past || is_resumed past || nat_lt (issue_count d past) D.begin

-- the conditions, in the order in which they are tested
abbrev pub issue_conditions : Desc → ℕ → ℕ → List Entry → List Condition
issue_conditions D d n past =
    (is_next_to_issue D d n past, Turn) ∷ (is_request_allowed D d n past, Barred) ∷ (may_issue_yet D d past, Start) ∷ []
