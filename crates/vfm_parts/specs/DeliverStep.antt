-- Deliver on the parts: the issuing device's own, and the page or the device that its request is aimed at.
use Rattle.std.specs.Prelude.{ℕ, ◌==◌, ◌&&◌, ◌||◌, not, Bool, true, nat_lt, if◌then◌else◌, List, [], ◌∷◌, length, take, drop}
use Rattle.std.specs.Int.{w64, from_le_bytes}
use Rattle.vfm_types.specs.declared.job.Job.{Job}
use Rattle.vfm_types.specs.declared.job.Job.TheVariants.{Write, Read, Store, Add}
use Rattle.vfm_types.specs.declared.job.Place.{Place}
use Rattle.vfm_types.specs.declared.job.Region.{Region}
use Rattle.vfm_types.specs.declared.job.Region.TheVariants.{Page, Bar}
use Rattle.vfm_types.specs.declared.entry.Rule.TheVariants.{Turn}
use Rattle.vfm_types.specs.declared.desc.Desc.{Desc}
use Rattle.vfm_types.specs.declared.desc.DevShape.{DevShape}
use Rattle.vfm_base.specs.PageSet.{contains_page}
use Rattle.vfm_types.specs.Desc.{job_at, shape_at, block_count}
use Rattle.vfm_types.specs.Job.{place_of, is_bell, is_bar_of, is_page}
use Rattle.vfm_types.specs.Machine.{DeviceState, splice, added, with_accepted_request}
use Rattle.vfm_types.specs.Requests.{job_or_zero, taken}
use Rattle.vfm_types.specs.Outstanding.{deliver_if, is_undelivered}
use Rattle.vfm_types.specs.Blocks.{writes_block}
use Rattle.vfm_plain.specs.Condition.{Condition}
use Rattle.vfm_parts.specs.Parts.{Dev, Parts, numbers_below, one_more}

-- request n of the device is outstanding and waits for its delivery
abbrev pub is_waiting_for_delivery_in : ℕ → Dev → Bool
is_waiting_for_delivery_in n dev = is_undelivered n dev.requests

-- the conditions, in the order in which they are tested
abbrev pub deliver_conditions_in : ℕ → Dev → List Condition
deliver_conditions_in n dev =
    (is_waiting_for_delivery_in n dev, Turn) ∷ []

-- the job of request n of device d
abbrev pub job_in : Desc → ℕ → ℕ → Dev → Job
job_in D d n dev = job_at D d (job_or_zero n dev.plain.pending)

-- the page or the BARs that the job is aimed at
abbrev pub region_of_job : Desc → Job → Region
region_of_job D job = (place_of D job).region

-- the bytes of a region
abbrev pub region_bytes_in : Parts → Region → List ℕ
region_bytes_in parts (Page p) = parts.page p
region_bytes_in parts (Bar t) = (parts.dev t).plain.bar

-- the issuer's buffer after its job: what is read of the target's bytes stands at its front
abbrev pub buffer_after : Desc → Job → List ℕ → List ℕ → List ℕ
buffer_after D (Write at bytes) target buf = buf
buffer_after D (Read at len) target buf = splice buf 0 (take len (drop (place_of D (Read at len)).offset target))
buffer_after D (Store at len) target buf = buf
buffer_after D (Add at value) target buf = splice buf 0 (take 8 (drop (place_of D (Add at value)).offset target))

-- a page after a job, where the issuer had this buffer
abbrev pub page_after_job : Desc → Job → List ℕ → List ℕ → List ℕ
page_after_job D (Write at bytes) buf old = splice old (place_of D (Write at bytes)).offset bytes
page_after_job D (Read at len) buf old = old
page_after_job D (Store at len) buf old = splice old (place_of D (Store at len)).offset (take len buf)
page_after_job D (Add at value) buf old =
    let offset = (place_of D (Add at value)).offset in splice old offset (added (take 8 (drop offset old)) value)

-- a device whose doorbell is rung with a number: the job of that number is accepted or counted as lost
abbrev pub rung : DevShape → DeviceState → ℕ → DeviceState
rung shape plain number =
    if nat_lt number (length shape.jobs) && nat_lt plain.accepted shape.budget then with_accepted_request plain number
    else record plain { lost = one_more plain.lost }

-- a device into whose BARs bytes are written at a place: a doorbell is rung and changes no byte
abbrev pub struck : DevShape → Place → List ℕ → DeviceState → DeviceState
struck shape place bytes plain =
    if is_bell place (length bytes) then rung shape plain (from_le_bytes w64 bytes)
    else record plain { bar = splice plain.bar place.offset bytes }

-- device t after a job into its BARs, where the issuer had this buffer
abbrev pub target_after_job : Desc → ℕ → Job → List ℕ → DeviceState → DeviceState
target_after_job D t (Write at bytes) buf plain = struck (shape_at D t) (place_of D (Write at bytes)) bytes plain
target_after_job D t (Read at len) buf plain = plain
target_after_job D t (Store at len) buf plain = struck (shape_at D t) (place_of D (Store at len)) (take len buf) plain
target_after_job D t (Add at value) buf plain =
    let offset = (place_of D (Add at value)).offset in
    record plain { bar = splice plain.bar offset (added (take 8 (drop offset plain.bar)) value) }

-- the issuing device d after the delivery of its request n, where its target had these bytes
abbrev pub delivered_dev : Desc → ℕ → ℕ → List ℕ → Dev → Dev
delivered_dev D d n target dev =
    let plain = taken dev.plain n in
    record dev {
      plain = record plain { buf = buffer_after D (job_in D d n dev) target plain.buf };
      requests = deliver_if true n dev.requests;
    }

-- the dirty blocks of device t after a job into its BARs, while its log is started: those too that it wrote and that
-- were read before
abbrev pub dirty_after_job : Desc → ℕ → Job → Dev → List ℕ
dirty_after_job D t job dev =
    if dev.logging then numbers_below (block_count (shape_at D t))
    (λ b. (not (contains_page dev.unread b) && writes_block D t b job) || contains_page dev.dirty b)
    else dev.dirty

-- device t after a job into its BARs, where the issuer had this buffer
abbrev pub struck_dev : Desc → ℕ → Job → List ℕ → Dev → Dev
struck_dev D t job buf dev =
    record dev { plain = target_after_job D t job buf dev.plain; dirty = dirty_after_job D t job dev }

-- each device after the delivery of request n of device d
abbrev pub devs_after_deliver : Desc → Parts → ℕ → ℕ → ℕ → Dev
devs_after_deliver D parts d n k =
    let own = parts.dev d in
    let job = job_in D d n own in
    let region = region_of_job D job in
    if d == k then delivered_dev D d n (region_bytes_in parts region) own else
    (if is_bar_of k region then struck_dev D k job own.plain.buf (parts.dev k) else parts.dev k)

-- each page after it
abbrev pub pages_after_deliver : Desc → Parts → ℕ → ℕ → ℕ → List ℕ
pages_after_deliver D parts d n p =
    let own = parts.dev d in
    let job = job_in D d n own in
    if is_page p (region_of_job D job) then page_after_job D job own.plain.buf (parts.page p) else parts.page p
