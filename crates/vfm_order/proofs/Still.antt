-- Where no request can move nothing is outstanding, and before the move each device completed what is wanted or is idle.
use Rattle.std.proofs.Common.{◌≡◌, ℕ, ◌<◌, ◌≤◌, ◌&&◌, ◌||◌, not, Bool, true, false, nat_lt, nat_le, if◌then◌else◌, List, [], ◌∷◌, length, Option, None, is_none, unwrap_or, refl, ap, ap₂, sym, ◌∙◌, arith, eq-eqb, eqb-true}
use Rattle.std.proofs.lemmas.Bool.{le-leb, lt-ltb, ltb-false, and_parts, or_left, or_right, or_parts, true≢false}
use Rattle.std.proofs.lemmas.List.{nil_from_length}
use Rattle.vfm_base.specs.Tests.{first_failed}
use Rattle.vfm_types.specs.declared.desc.Desc.{Desc}
use Rattle.vfm_types.specs.declared.entry.Entry.{Entry}
use Rattle.vfm_types.specs.declared.entry.Entry.TheVariants.{Issue, Deliver, Complete, Hold, Arc, Begin, Abort, Resume}
use Rattle.vfm_types.specs.declared.entry.Rule.TheVariants.{Barred, Decide, Order, Path, Quiet, Start, Turn}
use Rattle.vfm_types.specs.declared.state.MigState.{MigState}
use Rattle.vfm_types.specs.declared.state.MigState.TheVariants.{Running}
use Rattle.vfm_types.specs.Arcs.{state_of, hold_of, is_running, is_p2p}
use Rattle.vfm_types.specs.Desc.{device_count, job_at, shape_at}
use Rattle.vfm_types.specs.Machine.{device_of}
use Rattle.vfm_types.specs.Deliveries.{machine_of}
use Rattle.vfm_types.specs.Outstanding.{Outstanding, complete_count, is_arrived, is_undelivered, issue_count, outstanding_of, unissued}
use Rattle.vfm_types.specs.Phases.{is_aborted, is_begun, is_failed, is_joint, is_resumed}
use Rattle.vfm_types.specs.Requests.{fences, job_or_zero}
use Rattle.vfm_types.specs.Valid.{IsValid}
use Rattle.vfm_types.specs.Words.{has_fence, is_barred, is_decided, is_idle, is_nothing}
use Rattle.vfm_plain.specs.ArcRules.{is_quiet_for_arc, is_right_arc, may_take_arcs}
use Rattle.vfm_plain.specs.Condition.{is_exactly}
use Rattle.vfm_plain.specs.HoldRules.{is_next_to_stop_copy, is_quiet_for_hold, may_be_held}
use Rattle.vfm_plain.specs.IssueRules.{first_number, is_next_to_issue, is_request_allowed, may_issue_yet}
use Rattle.vfm_plain.specs.Legal.{IsLegal}
use Rattle.vfm_plain.specs.Rules.{fault_of}
use Rattle.vfm_laws.proofs.Conditions.{met}
use Rattle.vfm_laws.proofs.Counts.{issued_completed}
use Rattle.vfm_laws.proofs.Rising.{by_bool}
use Rattle.vfm_order.specs.LookAfter.{is_over}
use Rattle.vfm_order.specs.Coordinator.{AllIdle, AllStill}
use Rattle.vfm_order.proofs.Fits.{unbegun_off}

-- what the order asks of the devices so that it needn't wait
pub record IsAtRest (D : Desc) (past : List Entry) : Type 0 where
  pub empty : (d : ℕ) → d < device_count D → outstanding_of D d past ≡ []
  pub warm : is_begun past ≡ false → is_over past ≡ false → (d : ℕ) → d < device_count D
      → (nat_le D.begin (complete_count d past) || is_idle D d past) ≡ true

pub idle_rests : (D : Desc) (past : List Entry) → AllIdle D past → IsAtRest D past
idle_rests D past idle =
    record {
      empty = λ d inside.
          nil_from_length (outstanding_of D d past)
          (eqb-true (length (outstanding_of D d past)) 0
          (and_parts (is_nothing (device_of (machine_of D past) d).pending) (is_nothing (outstanding_of D d past)) (idle d inside)).1);
      warm = λ unbegun open_ d inside. or_right (nat_le D.begin (complete_count d past)) (is_idle D d past) (idle d inside);
    }

-- ---- before the move

-- every device stands in RUNNING, and none is held
pub at_start : (D : Desc) (past : List Entry) → IsLegal D past → is_begun past ≡ false → is_over past ≡ false → (d : ℕ)
    → (state_of d past ≡ Running) × (hold_of d past ≡ None)
at_start D [] legal unbegun open_ d = (refl, refl)
at_start D (Begin ∷ past) legal unbegun open_ d = absurd (true≢false unbegun)
at_start D (Abort ∷ past) legal unbegun open_ d = absurd (true≢false open_)
at_start D (Resume ∷ past) legal unbegun open_ d = absurd (true≢false (or_parts (is_aborted past) true open_).1)
at_start D (Hold e to ∷ past) legal unbegun open_ d =
    let off = unbegun_off (is_begun past) (is_aborted past) (is_resumed past) (is_failed past) unbegun in
    let order = met (may_be_held e past) Order ((is_decided D past, Decide) ∷ (is_next_to_stop_copy D e to past, Path) ∷ (is_quiet_for_hold D to past, Quiet) ∷ []) legal.1 in
    absurd (true≢false (sym order.0 ∙ ap (λ (b : Bool). b && not (is_joint past) && is_none (hold_of e past)) off))
at_start D (Arc e to ∷ past) legal unbegun open_ d =
    let off = unbegun_off (is_begun past) (is_aborted past) (is_resumed past) (is_failed past) unbegun in
    let over = or_parts (is_aborted past) (is_resumed past) open_ in
    let order = met (may_take_arcs past) Order ((is_right_arc D e to past, Path) ∷ (is_quiet_for_arc D e to past, Quiet) ∷ []) legal.1 in
    absurd (true≢false (sym order.0 ∙ ap (λ (b : Bool). (b && not (is_joint past)) || is_aborted past || is_resumed past) off
    ∙ ap₂ (λ (a r : Bool). a || r) over.0 over.1))
at_start D (entry ∷ past) legal unbegun open_ d = at_start D past legal.2 unbegun open_ d

-- ---- where no request can move

module _ (D : Desc) (past : List Entry) (valid : IsValid D) (legal : IsLegal D past) (still : AllStill D past) where
  nothing_out : (d : ℕ) → d < device_count D → outstanding_of D d past ≡ []
  nothing_out d inside = go (outstanding_of D d past) refl
    where
      go : (requests : List Outstanding) → outstanding_of D d past ≡ requests → requests ≡ []
      go [] e = refl
      go (r ∷ rest) e =
          absurd (by_bool r.is_delivered (λ b. r.is_delivered ≡ b → ⊥)
          (λ arrived f. still (Complete d r.number) refl (
            lt-ltb d (device_count D) inside,
            ap (λ (requests : List Outstanding). first_failed ((is_arrived r.number requests, Turn) ∷ [])) e
                ∙ ap₂ (λ (b c : Bool). first_failed ((if b then c else is_arrived r.number rest, Turn) ∷ [])) (eq-eqb r.number r.number refl) f,
          ))
          (λ waits f. still (Deliver d r.number) refl (
            lt-ltb d (device_count D) inside,
            ap (λ (requests : List Outstanding). first_failed ((is_undelivered r.number requests, Turn) ∷ [])) e
                ∙ ap₂ (λ (b c : Bool). first_failed ((if b then not c else is_undelivered r.number rest, Turn) ∷ [])) (eq-eqb r.number r.number refl) f,
          ))
          refl)

  -- before the move the first pending request may be issued as far as the time goes
  no_issue : is_begun past ≡ false → is_over past ≡ false → (d : ℕ) → d < device_count D → (p : ℕ × ℕ) (more : List (ℕ × ℕ))
      → (device_of (machine_of D past) d).pending ≡ p ∷ more → nat_lt (issue_count d past) D.begin ≡ true → ⊥
  no_issue unbegun open_ d inside p more pending early =
      still (Issue d p.0) refl (lt-ltb d (device_count D) inside, fine)
    where
      window : nat_lt 0 (shape_at D d).window ≡ true
      window = let low = (valid.in_range.devices d inside).window_low in lt-ltb 0 (shape_at D d).window (omega (arith, low))

      turn : is_next_to_issue D d p.0 past ≡ true
      turn =
          ap₂ (λ (requests : List Outstanding) (list : List (ℕ × ℕ)). is_exactly p.0 (first_number (unissued requests list))
          && nat_lt (length requests) (shape_at D d).window && not (has_fence D d requests)
          && (not (fences D d (job_or_zero p.0 list)) || is_nothing requests)) (nothing_out d inside) pending
          ∙ ap₂ (λ (b c : Bool). b && c && true && (not (fences D d (job_or_zero p.0 (p ∷ more))) || true)) (eq-eqb p.0 p.0 refl) window
          ∙ or_right (not (fences D d (job_or_zero p.0 (p ∷ more)))) true refl

      allowed : is_request_allowed D d p.0 past ≡ true
      allowed =
          let started = at_start D past legal unbegun open_ d in
          let job = job_at D d (job_or_zero p.0 (device_of (machine_of D past) d).pending) in
          ap₂ (λ (hold : Option MigState) (state : MigState). is_running (unwrap_or hold state) || (is_p2p (unwrap_or hold state) && not (is_barred D d job)))
          started.1 started.0

      yet : may_issue_yet D d past ≡ true
      yet = or_right (is_begun past || is_aborted past || is_resumed past) (nat_lt (issue_count d past) D.begin) early

      fine : fault_of D past (Issue d p.0) ≡ None
      fine =
          ap (λ (b : Bool). first_failed ((b, Turn) ∷ (is_request_allowed D d p.0 past, Barred) ∷ (may_issue_yet D d past, Start) ∷ [])) turn
          ∙ ap₂ (λ (b c : Bool). first_failed ((b, Barred) ∷ (c, Start) ∷ [])) allowed yet

  warmed : is_begun past ≡ false → is_over past ≡ false → (d : ℕ) → d < device_count D
      → (nat_le D.begin (complete_count d past) || is_idle D d past) ≡ true
  warmed unbegun open_ d inside = go (device_of (machine_of D past) d).pending refl
    where
      go : (pending : List (ℕ × ℕ)) → (device_of (machine_of D past) d).pending ≡ pending → (nat_le D.begin (complete_count d past) || is_idle D d past) ≡ true
      go [] e =
          or_right (nat_le D.begin (complete_count d past)) (is_idle D d past)
          (ap₂ (λ (list : List (ℕ × ℕ)) (requests : List Outstanding). is_nothing list && is_nothing requests) e (nothing_out d inside))
      go (p ∷ more) e =
          or_left (nat_le D.begin (complete_count d past)) (is_idle D d past)
          (by_bool (nat_lt (issue_count d past) D.begin) (λ b. nat_lt (issue_count d past) D.begin ≡ b → nat_le D.begin (complete_count d past) ≡ true)
          (λ early f. absurd (no_issue unbegun open_ d inside p more e f))
          (λ enough f.
          let late : D.begin ≤ issue_count d past = ltb-false (issue_count d past) D.begin f in
          let all = issued_completed D past d legal in
          let none = ap (length {A = Outstanding}) (nothing_out d inside) in
          le-leb D.begin (complete_count d past) (omega (arith, late, all, none)))
          refl)

  pub still_rests : IsAtRest D past
  still_rests = record { empty = nothing_out; warm = warmed }
