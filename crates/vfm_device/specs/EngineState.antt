-- The engine of a device: its requests and its state, apart from its BARs, and what each entry makes of it.
use Rattle.std.specs.Prelude.{◌≡◌, ℕ, ◌+◌, ◌<◌, ◌&&◌, All, Bool, false, if◌then◌else◌, List, [], ◌∷◌, ◌++◌, Option, Some, None, length, nat_lt, replicate, suc, true, unwrap_or, zero}
use Rattle.vfm_base.specs.Tests.{first_failed}
use Rattle.vfm_types.specs.declared.desc.Desc.{Desc}
use Rattle.vfm_types.specs.declared.desc.DevShape.{DevShape}
use Rattle.vfm_types.specs.declared.entry.Rule.{Rule}
use Rattle.vfm_types.specs.declared.look.DevLook.{DevLook}
use Rattle.vfm_types.specs.declared.state.MigState.{MigState}
use Rattle.vfm_types.specs.declared.state.MigState.TheVariants.{Running, StopCopy, Resuming}
use Rattle.vfm_types.specs.Desc.{device_count, shape_at}
use Rattle.vfm_types.specs.Machine.{DeviceState, numbered, splice}
use Rattle.vfm_types.specs.Requests.{job_or_zero, without}
use Rattle.vfm_types.specs.Outstanding.{Outstanding, complete_if, deliver_if, delivered_count, is_outstanding, outstanding_job_or_zero, undelivered_count, unissued}
use Rattle.vfm_plain.specs.IssueRules.{first_number}
use Rattle.vfm_laws.specs.Queues.{QueueKept}
use Rattle.vfm_parts.specs.Parts.{Dev, one_more}
use Rattle.vfm_parts.specs.IssueStep.{issue_conditions_in}

-- the requests that a device accepted: those that are pending (number and job, in order), and how many it accepted and did
pub record Requests : Type 0 where
  pub pending : List (ℕ × ℕ)
  pub accepted : ℕ
  pub done : ℕ

-- An engine: the requests that it accepted and hasn't done (number and job, in order), how many it accepted, did and lost,
-- and its buffer; the requests on the bus, in the order of their issue; its state, and what it is held for; how often it
-- issued, completed, and took an arc. Which device it is of is said where it is asked.
pub record EngineState : Type 0 where
  pub pending : List (ℕ × ℕ)
  pub accepted : ℕ
  pub done : ℕ
  pub lost : ℕ
  pub buf : List ℕ
  pub requests : List Outstanding
  pub state : MigState
  pub hold : Option MigState
  pub issues : ℕ
  pub completes : ℕ
  pub arcs : ℕ

-- the engine with these BAR bytes, as a device of the plain machine
abbrev pub plain_with : List ℕ → EngineState → DeviceState
plain_with bar e =
    record { bar = bar; pending = e.pending; buf = e.buf; accepted = e.accepted; done = e.done; lost = e.lost }

-- the engine as a device's part, as far as an issue asks for it; whether it may issue freely is told
abbrev pub part_of : Bool → EngineState → Dev
part_of begun e =
    record {
      plain = plain_with [] e;
      requests = e.requests;
      state = e.state;
      hold = e.hold;
      issues = e.issues;
      completes = e.completes;
      arcs = e.arcs;
      logging = begun;
      released = false;
      marks = [];
      unread = [];
      dirty = [];
    }

-- a device's part with this engine: its BARs, its log and the marks of its blocks stay
abbrev pub with_engine : EngineState → Dev → Dev
with_engine e dev =
    record dev {
      plain = plain_with dev.plain.bar e;
      requests = e.requests;
      state = e.state;
      hold = e.hold;
      issues = e.issues;
      completes = e.completes;
      arcs = e.arcs;
    }

-- the engine of a device as described
abbrev pub described_engine : DevShape → EngineState
described_engine shape =
    record {
      pending = numbered 0 shape.queue;
      accepted = length shape.queue;
      done = 0;
      lost = 0;
      buf = replicate 64 0;
      requests = [];
      state = Running;
      hold = None;
      issues = 0;
      completes = 0;
      arcs = 0;
    }

-- an engine in STOP_COPY with these requests done, lost and pending, this buffer, and nothing on the bus
abbrev pub staged_engine : ℕ → ℕ → List (ℕ × ℕ) → List ℕ → EngineState
staged_engine done lost pending buf =
    record {
      pending = pending;
      accepted = done + length pending;
      done = done;
      lost = lost;
      buf = buf;
      requests = [];
      state = StopCopy;
      hold = None;
      issues = 0;
      completes = 0;
      arcs = 0;
    }

-- the requests that are yet to be issued
abbrev pub unissued_in : EngineState → List (ℕ × ℕ)
unissued_in e = unissued e.requests e.pending

-- the number of the next request to be issued; 0 where none is left
abbrev pub next_or_zero : EngineState → ℕ
next_or_zero e = unwrap_or (first_number (unissued_in e)) 0

-- the next request to be issued, if one is left
abbrev pub first_item : List (ℕ × ℕ) → Option (ℕ × ℕ)
first_item [] = None
first_item (request ∷ requests) = Some request

-- the request at place k of these, if there is one
abbrev pub item_at : List (ℕ × ℕ) → ℕ → Option (ℕ × ℕ)
item_at [] k = None
item_at (request ∷ requests) zero = Some request
item_at (request ∷ requests) (suc k) = item_at requests k

-- the first rule that bars the next issue of device d; Turn where no request is left to be issued
abbrev pub barred_by : Desc → ℕ → Bool → EngineState → Option Rule
barred_by D d begun e = first_failed (issue_conditions_in D d (next_or_zero e) (part_of begun e))

-- what can be seen of device d
abbrev pub look_in : Desc → ℕ → Bool → EngineState → DevLook
look_in D d begun e =
    record {
      state = e.state;
      held = e.hold;
      unissued = length (unissued_in e);
      undelivered = undelivered_count e.requests;
      delivered = delivered_count e.requests;
      issued = e.issues;
      completes = e.completes;
      arcs = e.arcs;
      blocked = barred_by D d begun e;
    }

-- What the engine of device d keeps beside its value: its queue is in order, and the jobs of its requests are those of d.
pub record EngineKept (D : Desc) (d : ℕ) (e : EngineState) : Type 0 where
  pub device : d < device_count D
  pub queue : QueueKept D d (plain_with [] e) e.requests
  pub pending : All (λ r. r.1 < length (shape_at D d).jobs) e.pending
  pub outstanding : All (λ r. r.job < length (shape_at D d).jobs) e.requests

-- the next request: its device has its job, which is the one that stands under its number
pub record NextIs (D : Desc) (d : ℕ) (e : EngineState) (r : ℕ × ℕ) : Type 0 where
  pub known : r.1 < length (shape_at D d).jobs
  pub job : job_or_zero r.0 e.pending ≡ r.1
  pub number : first_number (unissued_in e) ≡ Some r.0

-- the number of the job of request n, on the bus or else pending
abbrev pub job_of_request : ℕ → EngineState → ℕ
job_of_request n e =
    if is_outstanding n e.requests then outstanding_job_or_zero n e.requests else job_or_zero n e.pending

-- with request n on the bus
abbrev pub with_issued : ℕ → EngineState → EngineState
with_issued n e =
    record e {
      requests = e.requests ++ (record { number = n; job = job_or_zero n e.pending; is_delivered = false }) ∷ [];
      issues = e.issues + 1;
    }

-- with request n delivered: it is done, and waits for its completion
abbrev pub with_delivered : ℕ → EngineState → EngineState
with_delivered n e =
    record e { pending = without n e.pending; done = e.done + 1; requests = deliver_if true n e.requests }

-- with request n completed: it is off the bus
abbrev pub with_completed : ℕ → EngineState → EngineState
with_completed n e = record e { requests = complete_if true n e.requests; completes = e.completes + 1 }

-- a doorbell with this number is accepted: the device has such a job, and budget for it
abbrev pub is_accepted : DevShape → ℕ → EngineState → Bool
is_accepted shape number e = nat_lt number (length shape.jobs) && nat_lt e.accepted shape.budget

-- with its doorbell rung: one more request for that job, or one more lost
abbrev pub with_rung : DevShape → ℕ → EngineState → EngineState
with_rung shape number e =
    if is_accepted shape number e
    then record e { pending = e.pending ++ (e.accepted, number) ∷ []; accepted = e.accepted + 1 }
    else record e { lost = one_more e.lost }

-- with these bytes at the front of its buffer
abbrev pub with_front_put : List ℕ → EngineState → EngineState
with_front_put bytes e = record e { buf = splice e.buf 0 bytes }

-- held for a state
abbrev pub with_hold : MigState → EngineState → EngineState
with_hold to e = record e { hold = Some to }

-- in another state, by an arc
abbrev pub with_arc : MigState → EngineState → EngineState
with_arc to e = record e { state = to; hold = None; arcs = one_more e.arcs }

-- in the same state, after an arc that failed
abbrev pub with_failed_arc : EngineState → EngineState
with_failed_arc e = record e { arcs = one_more e.arcs }

-- no longer held
abbrev pub with_no_hold : EngineState → EngineState
with_no_hold e = record e { hold = None }

-- taken over by the destination
abbrev pub with_resumed : EngineState → EngineState
with_resumed e = record e { state = Resuming }
