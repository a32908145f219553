-- What the look after a list shows, fact by fact.
use Rattle.std.proofs.Common.{◌≡◌, ℕ, ◌+◌, ◌<◌, ◌≤◌, ◌==◌, ◌&&◌, ◌||◌, Bool, true, false, nat_lt, nat_le, if◌then◌else◌, List, [], ◌∷◌, length, refl, ap, sym, ◌∙◌, arith, ne_eqb}
use Rattle.std.proofs.lemmas.Bool.{and_left, and_right}
use Rattle.vfm_types.specs.declared.desc.Desc.{Desc}
use Rattle.vfm_types.specs.declared.entry.Entry.{Entry}
use Rattle.vfm_types.specs.declared.look.DevLook.{DevLook}
use Rattle.vfm_types.specs.declared.state.MigState.{MigState}
use Rattle.vfm_types.specs.declared.state.MigState.TheVariants.{Running, StopCopy}
use Rattle.vfm_types.specs.Desc.{device_count, shape_at}
use Rattle.vfm_types.specs.Paths.{same_state, next_towards}
use Rattle.vfm_types.specs.Machine.{device_of}
use Rattle.vfm_types.specs.Deliveries.{machine_of}
use Rattle.vfm_types.specs.Outstanding.{Outstanding, outstanding_of, unissued, undelivered_count, delivered_count, complete_count}
use Rattle.vfm_types.specs.Arcs.{state_of, is_p2p, is_stopped}
use Rattle.vfm_types.specs.Phases.{pass_count}
use Rattle.vfm_types.specs.Marks.{has_reported, is_in_set}
use Rattle.vfm_types.specs.Blocks.{is_no_pass_open}
use Rattle.vfm_types.specs.Words.{is_idle, is_quiet, is_decided, all_stand_in}
use Rattle.vfm_types.specs.Valid.{IsValid}
use Rattle.vfm_base.specs.Least.{all_below}
use Rattle.vfm_plain.specs.BeginRules.{may_begin_move}
use Rattle.vfm_plain.specs.Looks.{look_of, is_ready}
use Rattle.vfm_plain.specs.Legal.{IsLegal}
use Rattle.vfm_laws.proofs.Rising.{by_bool}
use Rattle.vfm_laws.proofs.KeptStates.{keeps_states}
use Rattle.vfm_quiet.specs.Seen.{seen, sees_ready, sees_reported, sees_all_in, sees_warm, sees_quiet, sees_decided, next_seen, next_or_stay, no_look}
use Rattle.vfm_order.specs.LookAfter.{look_after}
use Rattle.vfm_order.proofs.Numbers.{eight_at, all_below_same, length_where}
use Rattle.vfm_order.proofs.Ways.{home_is_next, out_is_next}
use Rattle.vfm_order.proofs.OnWay.{on_way}

pub few_devices : (D : Desc) → IsValid D → device_count D ≤ 8
few_devices D valid = valid.in_range.count_high

pub seen_after : (D : Desc) (past : List Entry) (d : ℕ) → IsValid D → d < device_count D → seen (look_after D past) d ≡ look_of D d past
seen_after D past d valid inside = let few = few_devices D valid in eight_at (λ k. look_of D k past) d no_look (omega arith)

pub ready_after : (D : Desc) (past : List Entry) (d : ℕ) → IsValid D → d < device_count D → sees_ready (look_after D past) d ≡ is_ready D d past
ready_after D past d valid inside = let few = few_devices D valid in eight_at (λ k. is_ready D k past) d false (omega arith)

pub reported_after : (D : Desc) (past : List Entry) (d : ℕ) → IsValid D → d < device_count D → sees_reported (look_after D past) d ≡ has_reported d past
reported_after D past d valid inside = let few = few_devices D valid in eight_at (λ k. has_reported k past) d false (omega arith)

pub all_in_after : (D : Desc) (past : List Entry) (state : MigState) → IsValid D → sees_all_in (look_after D past) state ≡ all_stand_in D state past
all_in_after D past state valid =
    all_below_same (device_count D) (λ d. same_state (seen (look_after D past) d).state state) (λ d. same_state (state_of d past) state)
    (λ d inside. ap (λ (v : DevLook). same_state v.state state) (seen_after D past d valid inside))

pub quiet_after : (D : Desc) (past : List Entry) → IsValid D → sees_quiet (look_after D past) ≡ is_quiet D past
quiet_after D past valid =
    ap (λ (b : Bool). device_count D == 1 || b)
    (all_below_same (device_count D) (λ d. is_p2p (seen (look_after D past) d).state || is_stopped (seen (look_after D past) d).state)
    (λ d. is_p2p (state_of d past) || is_stopped (state_of d past))
    (λ d inside. ap (λ (v : DevLook). is_p2p v.state || is_stopped v.state) (seen_after D past d valid inside)))

pub decided_after : (D : Desc) (past : List Entry) → sees_decided D (look_after D past) ≡ is_decided D past
decided_after D past =
    ap (λ (n : ℕ).
    D.rounds == 0 || (nat_lt 0 (pass_count past) && is_no_pass_open D past && (nat_le D.rounds (pass_count past) || nat_le n D.threshold)))
    (length_where D.pages (λ p. is_in_set D p past))

-- nothing is taken out where nothing is outstanding
unissued_all : (pending : List (ℕ × ℕ)) → unissued [] pending ≡ pending
unissued_all [] = refl
unissued_all (p ∷ pending) = ap (λ (ps : List (ℕ × ℕ)). p ∷ ps) (unissued_all pending)

-- nothing is pending or outstanding exactly where nothing is unissued, undelivered or delivered
idle_same : (pending : List (ℕ × ℕ)) (requests : List Outstanding)
    → (length (unissued requests pending) == 0 && undelivered_count requests == 0 && delivered_count requests == 0)
    ≡ (length pending == 0 && length requests == 0)
idle_same pending [] =
    ap (λ (ps : List (ℕ × ℕ)). length ps == 0 && true && true) (unissued_all pending) ∙ twice (length pending == 0)
  where
    twice : (b : Bool) → (b && true && true) ≡ (b && true)
    twice true = refl
    twice false = refl
idle_same pending (r ∷ requests) =
    by_bool r.is_delivered
    (λ b.
    (length (unissued (r ∷ requests) pending) == 0 && undelivered_count requests + (if b then 0 else 1) == 0
    && delivered_count requests + (if b then 1 else 0) == 0) ≡ false)
    (λ arrived.
    and_right (length (unissued (r ∷ requests) pending) == 0 && undelivered_count requests + 0 == 0) (delivered_count requests + 1 == 0)
    (ne_eqb (delivered_count requests + 1) 0 (λ e. omega (arith, e))))
    (λ waits.
    and_left (length (unissued (r ∷ requests) pending) == 0 && undelivered_count requests + 1 == 0) (delivered_count requests + 0 == 0)
    (and_right (length (unissued (r ∷ requests) pending) == 0) (undelivered_count requests + 1 == 0)
    (ne_eqb (undelivered_count requests + 1) 0 (λ e. omega (arith, e)))))
    ∙ sym (and_right (length pending == 0) (length (r ∷ requests) == 0) (ne_eqb (length (r ∷ requests)) 0 (λ e. omega (arith, e))))

pub warm_after : (D : Desc) (past : List Entry) → IsValid D
    → all_below (device_count D) (λ d. sees_warm D (look_after D past) d) ≡ may_begin_move D past
warm_after D past valid =
    all_below_same (device_count D) (λ d. sees_warm D (look_after D past) d) (λ d. nat_le D.begin (complete_count d past) || is_idle D d past)
    (λ d inside.
    ap (λ (v : DevLook). nat_le D.begin v.completes || (v.unissued == 0 && v.undelivered == 0 && v.delivered == 0)) (seen_after D past d valid inside)
    ∙ ap (λ (b : Bool). nat_le D.begin (complete_count d past) || b) (idle_same (device_of (machine_of D past) d).pending (outstanding_of D d past)))

-- the next states that the look shows are those of the list
pub home_after : (D : Desc) (past : List Entry) (d : ℕ) → IsValid D → IsLegal D past → d < device_count D
    → next_seen D (look_after D past) d Running ≡ next_towards (state_of d past) Running (shape_at D d).flags
home_after D past d valid legal inside =
    ap (λ (v : DevLook). next_or_stay v.state Running (shape_at D d).flags) (seen_after D past d valid inside)
    ∙ home_is_next (state_of d past) (shape_at D d).flags (on_way D valid past legal d inside).0 ((keeps_states D valid past legal).0 d inside).known

pub out_after : (D : Desc) (past : List Entry) (d : ℕ) → IsValid D → IsLegal D past → d < device_count D
    → next_seen D (look_after D past) d StopCopy ≡ next_towards (state_of d past) StopCopy (shape_at D d).flags
out_after D past d valid legal inside =
    ap (λ (v : DevLook). next_or_stay v.state StopCopy (shape_at D d).flags) (seen_after D past d valid inside)
    ∙ out_is_next (state_of d past) (shape_at D d).flags (on_way D valid past legal d inside).0 ((keeps_states D valid past legal).0 d inside).known
