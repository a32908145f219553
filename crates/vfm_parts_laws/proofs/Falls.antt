-- What is left to the parts falls with each allowed entry: the pieces.
use Rattle.std.proofs.lemmas.Option.{none-some}
use Rattle.std.proofs.Common.{◌≡◌, ℕ, zero, suc, ◌+◌, ◌-◌, ◌*◌, ◌<◌, ◌≤◌, ◌==◌, ◌&&◌, not, Bool, true, false, nat_lt, if◌then◌else◌, List, [], ◌∷◌, ◌++◌, length, Option, Some, None, refl, ap, sym, ◌∙◌, subst, arith, eqb-true, ltb-true, lt-ltb, length-append, mul-le-mul_right, suc-mul}
use Rattle.std.proofs.lemmas.Bool.{false≢true, true≢false, cond-true, cond-false}
use Rattle.vfm_types.specs.declared.desc.Desc.{Desc}
use Rattle.vfm_types.specs.declared.job.Job.{Job}
use Rattle.vfm_types.specs.declared.state.MigState.{MigState}
use Rattle.vfm_types.specs.declared.state.MigState.TheVariants.{Error, Stop, Running, StopCopy, Resuming, RunningP2p, PreCopy, PreCopyP2p}
use Rattle.vfm_types.specs.declared.entry.Rule.TheVariants.{Turn, Barred, Start}
use Rattle.vfm_base.specs.Tests.{first_failed}
use Rattle.vfm_base.specs.Least.{least_from, least_below, count_below}
use Rattle.vfm_base.specs.PageSet.{contains_page, least_page_from}
use Rattle.vfm_types.specs.State.{has_p2p}
use Rattle.vfm_types.specs.Paths.{same_state, next_towards}
use Rattle.vfm_types.specs.Desc.{device_count, shape_at, bar_bytes}
use Rattle.vfm_types.specs.Job.{place_of, length_of}
use Rattle.vfm_types.specs.Requests.{job_or_zero, without}
use Rattle.vfm_types.specs.Outstanding.{deliver_if, complete_if, is_undelivered, is_arrived}
use Rattle.vfm_types.specs.Arcs.{is_stopped}
use Rattle.vfm_plain.specs.Condition.{is_exactly}
use Rattle.vfm_laws.specs.Queues.{waiting, is_listed}
use Rattle.vfm_laws.specs.Standing.{is_hold_step}
use Rattle.vfm_laws.proofs.Rising.{by_bool, length_without, listed_front, length_numbered}
use Rattle.vfm_laws.proofs.Waiting.{issued_waiting, delivered_waiting, completed_waiting, undelivered_listed, delivered_length}
use Rattle.vfm_laws.proofs.Conditions.{met}
use Rattle.vfm_laws.proofs.Queued.{issued, turn_head}
use Rattle.vfm_parts.specs.Parts.{Dev, Lead, Parts, numbers_below}
use Rattle.vfm_parts.specs.PartWords.{blocks_left_in, has_reported_in}
use Rattle.vfm_parts.specs.Fits.{IsSetBelow, DevFits}
use Rattle.vfm_parts.specs.IssueStep.{issue_conditions_in, is_next_to_issue_in, is_request_allowed_in, may_issue_yet_in, issued_dev}
use Rattle.vfm_parts.specs.DeliverStep.{deliver_conditions_in, delivered_dev, struck_dev, target_after_job}
use Rattle.vfm_parts.specs.CompleteStep.{complete_conditions_in, completed_dev}
use Rattle.vfm_parts.proofs.Sets.{least_is, size_is}
use Rattle.vfm_parts_laws.specs.EntriesLeft.{sum_below, is_over, arcs_home, steps_out, hold_made, moves_left, requests_left, reads_left, report_left, device_left, DevStands}
use Rattle.vfm_parts_laws.proofs.FittingQueues.{turn_in, length_completed, length_push}
use Rattle.vfm_parts_laws.proofs.FittingTargets.{kept_target}
use Rattle.vfm_parts_laws.proofs.Standing.{Way, home, early, held, final}
use Rattle.vfm_parts_laws.proofs.Sums.{sum_less, count_less}

-- ---- requests

-- the pending requests are those that wait and the rest
rest_length : (D : Desc) (d : ℕ) (dev : Dev) → DevFits D d dev → length (waiting dev.requests) ≤ length dev.plain.pending
rest_length D d dev fits =
    let split = ap (length {A = ℕ × ℕ}) fits.queue.pending ∙ length-append (waiting dev.requests) fits.queue.rest in omega arith

pub issue_falls : (D : Desc) (d n : ℕ) (dev : Dev) → DevFits D d dev → first_failed (issue_conditions_in D d n dev) ≡ None
    → requests_left D d (issued_dev n dev) + 1 ≤ requests_left D d dev
issue_falls D d n dev fits fine =
    let turn = turn_in D d n dev (met (is_next_to_issue_in D d n dev) Turn ((is_request_allowed_in D d n dev, Barred) ∷ (may_issue_yet_in D dev, Start) ∷ []) fine).0 in
    let head = turn_head D d n dev.plain dev.requests fits.queue turn in
    let split = ap (length {A = ℕ × ℕ}) head.1 ∙ length-append (waiting dev.requests) ((n, job_or_zero n dev.plain.pending) ∷ head.0) in
    let longer : length (dev.requests ++ issued n dev.plain ∷ []) ≡ length dev.requests + 1 = length_push dev.requests (issued n dev.plain) in
    let waits : length (waiting (dev.requests ++ issued n dev.plain ∷ [])) ≡ length (waiting dev.requests) + 1 =
    ap (length {A = ℕ × ℕ}) (issued_waiting (issued n dev.plain) dev.requests refl) ∙ length_push (waiting dev.requests) (n, job_or_zero n dev.plain.pending) in
    omega arith

pub complete_falls : (D : Desc) (d n : ℕ) (dev : Dev) → first_failed (complete_conditions_in n dev) ≡ None
    → requests_left D d (completed_dev D d n dev) + 1 ≤ requests_left D d dev
complete_falls D d n dev fine =
    let arrived = (met (is_arrived n dev.requests) Turn [] fine).0 in
    let shorter = length_completed n dev.requests arrived in
    let waits : length (waiting (complete_if true n dev.requests)) ≡ length (waiting dev.requests) =
    ap (length {A = ℕ × ℕ}) (completed_waiting n dev.requests arrived) in
    omega arith

pub deliver_falls : (D : Desc) (d n : ℕ) (dev : Dev) (target : List ℕ) → DevFits D d dev → first_failed (deliver_conditions_in n dev) ≡ None
    → requests_left D d (delivered_dev D d n target dev) + 1 ≤ requests_left D d dev
deliver_falls D d n dev target fits fine =
    let waits = (met (is_undelivered n dev.requests) Turn [] fine).0 in
    let listed = undelivered_listed n dev.requests waits in
    let all : is_listed n dev.plain.pending ≡ true = ap (is_listed n) fits.queue.pending ∙ listed_front n (waiting dev.requests) fits.queue.rest listed in
    let pending = length_without n dev.plain.pending all in
    let shorter = length_without n (waiting dev.requests) listed in
    let less : length (waiting (deliver_if true n dev.requests)) ≡ length (without n (waiting dev.requests)) = ap (length {A = ℕ × ℕ}) (delivered_waiting n dev.requests waits) in
    let same : length (deliver_if true n dev.requests) ≡ length dev.requests = delivered_length true n dev.requests in
    let split = rest_length D d dev fits in
    omega arith

pub target_same : (D : Desc) (t : ℕ) (job : Job) (buf : List ℕ) (dev : Dev) → (place_of D job).offset + length_of job ≤ bar_bytes (shape_at D t)
    → DevFits D t dev → requests_left D t (struck_dev D t job buf dev) ≤ requests_left D t dev
target_same D t job buf dev inside fits =
    let kept = kept_target D t job buf dev.plain inside in
    let after = target_after_job D t job buf dev.plain in
    let more : length after.pending ≡ length dev.plain.pending + length kept.grown.jobs =
    ap (length {A = ℕ × ℕ}) kept.grown.pending ∙ length-append dev.plain.pending _ ∙ ap (λ (k : ℕ). length dev.plain.pending + k) (length_numbered dev.plain.accepted kept.grown.jobs) in
    let accepted : after.accepted ≡ dev.plain.accepted + length kept.grown.jobs = kept.grown.accepted in
    let within : after.accepted ≤ (shape_at D t).budget = kept.grown.budget fits.queue.budget in
    let split = rest_length D t dev fits in
    omega arith

-- ---- holds and arcs

-- one of a device that isn't stopped is left
awake_out : (state : MigState) → is_stopped state ≡ false → same_state state Error ≡ false → 1 ≤ steps_out state
awake_out Error awake known = absurd (true≢false known)
awake_out Stop awake known = absurd (true≢false awake)
awake_out StopCopy awake known = absurd (true≢false awake)
awake_out Resuming awake known = absurd (true≢false awake)
awake_out Running awake known = omega arith
awake_out RunningP2p awake known = omega arith
awake_out PreCopy awake known = omega arith
awake_out PreCopyP2p awake known = omega arith

held_out : (from to : MigState) → is_hold_step from to ≡ true → steps_out to + 2 ≤ steps_out from
held_out Running RunningP2p step = omega arith
held_out Running Stop step = omega arith
held_out PreCopy PreCopyP2p step = omega arith
held_out PreCopy StopCopy step = omega arith
held_out RunningP2p Stop step = omega arith
held_out PreCopyP2p StopCopy step = omega arith
held_out _ _ step = absurd (false≢true step)

pub few_home : (state : MigState) → arcs_home state ≤ 3
few_home Error = omega arith
few_home Stop = omega arith
few_home StopCopy = omega arith
few_home Resuming = omega arith
few_home Running = omega arith
few_home RunningP2p = omega arith
few_home PreCopy = omega arith
few_home PreCopyP2p = omega arith

home_falls : (from : MigState) (bits : ℕ) → same_state from Running ≡ false → same_state from Error ≡ false
    → arcs_home (next_towards from Running bits) + 1 ≤ arcs_home from
home_falls Error bits away known = absurd (true≢false known)
home_falls Running bits away known = absurd (true≢false away)
home_falls Stop bits away known =
    by_bool (has_p2p bits) (λ b. arcs_home (if b then RunningP2p else Running) + 1 ≤ 2) (λ has. omega arith) (λ lacks. omega arith)
home_falls StopCopy bits away known = omega arith
home_falls Resuming bits away known = omega arith
home_falls RunningP2p bits away known = omega arith
home_falls PreCopy bits away known = omega arith
home_falls PreCopyP2p bits away known =
    by_bool (has_p2p bits) (λ b. arcs_home (if b then RunningP2p else Running) + 1 ≤ 2) (λ has. omega arith) (λ lacks. omega arith)

-- a device that is held for no state that it can't be held for
unheld : (lead : Lead) (dev : Dev) → DevStands lead dev → is_over lead ≡ false → dev.state ≡ Stop → hold_made dev.hold ≡ 0
unheld lead dev stands moving stop = at dev.hold refl
  where
    at : (hold : Option MigState) → dev.hold ≡ hold → hold_made hold ≡ 0
    at None is = refl
    at (Some to) is = absurd (false≢true (ap (λ (s : MigState). is_hold_step s to) (sym stop) ∙ stands.held moving to is))

made_few : (hold : Option MigState) → hold_made hold ≤ 1
made_few None = omega arith
made_few (Some to) = omega arith

pub out_is : (lead : Lead) (dev : Dev) → is_over lead ≡ false → moves_left lead dev ≡ steps_out dev.state - hold_made dev.hold + 3
out_is lead dev moving = cond-false _ _ _ moving

pub home_is : (lead : Lead) (dev : Dev) → is_over lead ≡ true → moves_left lead dev ≡ arcs_home dev.state
home_is lead dev over = cond-true _ _ _ over

pub hold_falls : (lead : Lead) (dev : Dev) (to : MigState) → DevStands lead dev → is_over lead ≡ false → dev.hold ≡ None → is_stopped dev.state ≡ false
    → moves_left lead (record dev { hold = Some to }) + 1 ≤ moves_left lead dev
hold_falls lead dev to stands moving none awake =
    let before = out_is lead dev moving in
    let after = out_is lead (record dev { hold = Some to }) moving in
    let some = awake_out dev.state awake stands.known in
    let unmade : hold_made dev.hold ≡ 0 = ap hold_made none in
    omega arith

pub arc_falls : (D : Desc) (lead : Lead) (dev : Dev) (d : ℕ) (to : MigState) (arcs : ℕ) → DevStands lead dev → Way D lead dev d to
    → moves_left lead (record dev { state = to; hold = None; arcs = arcs }) + 1 ≤ moves_left lead dev
arc_falls D lead dev d to arcs stands (home over away is) =
    let before = home_is lead dev over in
    let after = home_is lead (record dev { state = to; hold = None; arcs = arcs }) over in
    let less = home_falls dev.state (shape_at D d).flags away stands.known in
    let there : arcs_home to ≡ arcs_home (next_towards dev.state Running (shape_at D d).flags) = ap arcs_home is in
    omega arith
arc_falls D lead dev d to arcs stands (early moving from is) =
    let before = out_is lead dev moving in
    let after = out_is lead (record dev { state = to; hold = None; arcs = arcs }) moving in
    let here : steps_out dev.state ≡ 6 = ap steps_out from in
    let there : steps_out to ≡ 4 = ap steps_out is in
    let few = made_few dev.hold in
    omega arith
arc_falls D lead dev d to arcs stands (held moving is) =
    let before = out_is lead dev moving in
    let after = out_is lead (record dev { state = to; hold = None; arcs = arcs }) moving in
    let less = held_out dev.state to (stands.held moving to is) in
    let made : hold_made dev.hold ≡ 1 = ap hold_made is in
    omega arith
arc_falls D lead dev d to arcs stands (final moving from is) =
    let before = out_is lead dev moving in
    let after = out_is lead (record dev { state = to; hold = None; arcs = arcs }) moving in
    let here : steps_out dev.state ≡ 1 = ap steps_out from in
    let there : steps_out to ≡ 0 = ap steps_out is in
    let unmade = unheld lead dev stands moving from in
    omega arith

-- ---- pages and blocks

least_passes : (i n : ℕ) (test : ℕ → Bool) (d : ℕ) → least_from i n test ≡ Some d → test d ≡ true
least_passes i zero test d found = absurd (none-some d found)
least_passes i (suc n) test d found =
    by_bool (test i) (λ b. test i ≡ b → (if b then Some i else least_from (i + 1) n test) ≡ Some d → test d ≡ true)
    (λ passes t e. let same : i ≡ d = cc in ap test (sym same) ∙ t)
    (λ fails t e. least_passes (i + 1) n test d e) refl found

pub exactly_is : (n : ℕ) (x : Option ℕ) → is_exactly n x ≡ true → x ≡ Some n
exactly_is n None e = absurd (false≢true e)
exactly_is n (Some k) e = ap Some (eqb-true k n e)

pub part_some : (D : Desc) (lead : Lead) (d : ℕ) → least_below (device_count D) (λ k. nat_lt 0 (blocks_left_in lead k)) ≡ Some d → 0 < blocks_left_in lead d
part_some D lead d due = ltb-true 0 (blocks_left_in lead d) (least_passes 0 (device_count D) (λ k. nat_lt 0 (blocks_left_in lead k)) d due)

pub copy_falls : (n : ℕ) (left : List ℕ) (p : ℕ) → IsSetBelow n left → p < n → least_page_from left 0 ≡ Some p
    → length (numbers_below n (λ q. contains_page left q && not (p == q))) + 1 ≤ length left
copy_falls n left p fits inside due =
    let first : least_below n (contains_page left) ≡ Some p = sym (least_is n (contains_page left)) ∙ ap (λ (set : List ℕ). least_page_from set 0) (sym fits) ∙ due in
    let before : length left ≡ count_below n (contains_page left) = ap (length {A = ℕ}) fits ∙ size_is n (contains_page left) in
    let after = size_is n (λ q. contains_page left q && not (p == q)) in
    let less = count_less n (contains_page left) p inside (least_passes 0 n (contains_page left) p first) in
    omega arith

pub reads_fall : (n : ℕ) → 0 < n → reads_left (n - 1) + 1 ≤ reads_left n
reads_fall n some =
    by_bool (nat_lt 0 (n - 1))
    (λ b. nat_lt 0 (n - 1) ≡ b → (if b then n - 1 + 1 else 0) + 1 ≤ reads_left n)
    (λ more e. let now = reads_some n some in omega arith)
    (λ last e. let now = reads_some n some in omega arith) refl
  where
    reads_some : (m : ℕ) → 0 < m → reads_left m ≡ m + 1
    reads_some m h = cond-true _ _ _ (lt-ltb 0 m h)

pub reads_gone : (n : ℕ) → 0 < n → reads_left 0 + 1 ≤ reads_left n
reads_gone n some = let now : reads_left n ≡ n + 1 = cond-true _ _ _ (lt-ltb 0 n some) in omega arith

pub reads_few : (n : ℕ) → reads_left n ≤ n + 1
reads_few n = by_bool (nat_lt 0 n) (λ b. (if b then n + 1 else 0) ≤ n + 1) (λ some. omega arith) (λ none. omega arith)

-- ---- sums

-- what is left to device k under this coordinator
abbrev pub left_at : Desc → Lead → ℕ → Dev → ℕ
left_at D lead k dev = requests_left D k dev + moves_left lead dev + reads_left (blocks_left_in lead k) + report_left (has_reported_in lead k)

pub sum_one : (D : Desc) (parts : Parts) (lead : Lead) (devs : ℕ → Dev) (d : ℕ) → d < device_count D
    → left_at D lead d (devs d) + 1 ≤ device_left D parts d
    → ((k : ℕ) → k < device_count D → (d == k) ≡ false → left_at D lead k (devs k) ≤ device_left D parts k)
    → sum_below (device_count D) (λ k. left_at D lead k (devs k)) + 1 ≤ sum_below (device_count D) (device_left D parts)
sum_one D parts lead devs d inside less others =
    sum_less (device_count D) (device_left D parts) (λ k. left_at D lead k (devs k)) d inside less
    (λ k h. by_bool (d == k) (λ b. (d == k) ≡ b → left_at D lead k (devs k) ≤ device_left D parts k)
    (λ here e. subst (λ (j : ℕ). left_at D lead j (devs j) ≤ device_left D parts j) (eqb-true d k e) (weaker less)) (λ away e. others k h e) refl)
  where
    weaker : left_at D lead d (devs d) + 1 ≤ device_left D parts d → left_at D lead d (devs d) ≤ device_left D parts d
    weaker e = omega arith

pub product_more : (m n w : ℕ) → m + 1 ≤ n → m * w + w ≤ n * w
product_more m n w more =
    let step : suc m ≤ n = omega arith in
    let bound = mul-le-mul_right w step in
    let split = suc-mul m w in
    omega arith

pub product_le : (m n w : ℕ) → m ≤ n → m * w ≤ n * w
product_le m n w few = mul-le-mul_right w few
