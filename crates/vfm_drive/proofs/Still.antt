-- Where a round makes nothing the run is at its end; and one that is over has then ended.
use Rattle.std.proofs.Common.{◌≡◌, ◌≢◌, ℕ, suc, ◌+◌, ◌<◌, ◌≤◌, ◌==◌, ◌&&◌, ◌||◌, not, Bool, true, nat_lt, if◌then◌else◌, List, [], ◌∷◌, ◌++◌, length, Option, None, Some, is_none, unwrap_or, refl, ap, ap₂, sym, ◌∙◌, subst, arith, eq-eqb}
use Rattle.std.proofs.lemmas.Bool.{and_parts, cond-true, false≢true, lt-ltb, or_left, or_right, true≢false}
use Rattle.std.proofs.lemmas.List.{length-append}
use Rattle.vfm_base.specs.Tests.{first_failed}
use Rattle.vfm_types.specs.declared.desc.Desc.{Desc}
use Rattle.vfm_types.specs.declared.entry.Entry.{Entry}
use Rattle.vfm_types.specs.declared.entry.Entry.TheVariants.{Issue, Hold, Arc, Abort, Resume}
use Rattle.vfm_types.specs.declared.entry.Rule.TheVariants.{Barred, Decide, Order, Path, Quiet, Start, Turn}
use Rattle.vfm_types.specs.declared.state.MigState.{MigState}
use Rattle.vfm_types.specs.declared.state.MigState.TheVariants.{Running}
use Rattle.vfm_types.specs.Arcs.{hold_of, is_p2p, is_running, state_of}
use Rattle.vfm_types.specs.Desc.{device_count, job_at, shape_at}
use Rattle.vfm_types.specs.Deliveries.{machine_of}
use Rattle.vfm_types.specs.Machine.{device_of}
use Rattle.vfm_types.specs.Outstanding.{Outstanding, issue_count, outstanding_of, unissued}
use Rattle.vfm_types.specs.Paths.{same_state}
use Rattle.vfm_types.specs.Phases.{is_aborted, is_begun, is_joint, is_last_begun, is_on, is_resumed}
use Rattle.vfm_types.specs.Blocks.{is_no_pass_open}
use Rattle.vfm_types.specs.Requests.{fences, job_or_zero}
use Rattle.vfm_types.specs.Valid.{IsValid}
use Rattle.vfm_types.specs.Words.{all_stand_in, has_fence, is_barred, is_decided, is_idle, is_nothing}
use Rattle.vfm_plain.specs.Condition.{is_exactly}
use Rattle.vfm_plain.specs.Ended.{has_ended}
use Rattle.vfm_plain.specs.HoldRules.{is_next_to_stop_copy, is_quiet_for_hold, may_be_held}
use Rattle.vfm_plain.specs.IssueRules.{first_number, is_next_to_issue, is_request_allowed, may_issue_yet}
use Rattle.vfm_plain.specs.Legal.{IsLegal}
use Rattle.vfm_plain.specs.Rules.{fault_of}
use Rattle.vfm_laws.proofs.Below.{all_below_at}
use Rattle.vfm_laws.proofs.Conditions.{met, on_parts}
use Rattle.vfm_laws.proofs.KeptStates.{keeps_states}
use Rattle.vfm_laws.proofs.Rising.{by_bool}
use Rattle.vfm_laws.proofs.Steps.{same_is}
use Rattle.vfm_parts.specs.Parts.{World}
use Rattle.vfm_quiet.proofs.AllDevices.{all_pass}
use Rattle.vfm_quiet.specs.declared.want.Want.{Want}
use Rattle.vfm_quiet.specs.declared.want.Want.TheVariants.{Do, Wait, Done}
use Rattle.vfm_quiet.specs.Order.{next_want}
use Rattle.vfm_order.specs.Coordinator.{AllStill}
use Rattle.vfm_order.specs.LookAfter.{is_over, look_after}
use Rattle.vfm_order.proofs.Motion.{rest_moves, staged_moves}
use Rattle.vfm_order.proofs.StagedLooks.{staged_home}
use Rattle.vfm_order.proofs.Still.{still_rests}
use Rattle.vfm_order.proofs.Wants.{done_of_done}
use Rattle.vfm_core.specs.CoreState.{CoreState, FitsDesc}
use Rattle.vfm_drive.specs.Rounds.{ByRounds, IsAtEnd, IsRound, all_stepped, entry_wanted, with_made}
use Rattle.vfm_drive.specs.Runs.{IsOn, want_on, whole}
use Rattle.vfm_drive.proofs.Steps.{Unmoved, none_still, stepped_desc, stepped_longer, unmoved}

-- ---- the order doesn't wait

-- what is neither an entry nor a wait is the end
pub done_want : (want : Want) → ((entry : Entry) → want ≢ Do entry) → want ≢ Wait → want ≡ Done
done_want (Do entry) no_entry no_wait = absurd (no_entry entry refl)
done_want Wait no_entry no_wait = absurd (no_wait refl)
done_want Done no_entry no_wait = refl

pub done_on : (D : Desc) (origin : Option (List Entry)) (mine : List Entry) (w : World) (n : ℕ) → IsValid D → IsOn D origin mine w
    → AllStill D (whole origin mine) → ((entry : Entry) → want_on D origin mine n ≢ Do entry) → want_on D origin mine n ≡ Done
done_on D None mine w n valid is still no_entry =
    done_want (want_on D None mine n) no_entry (rest_moves D mine n valid is.legal (still_rests D mine valid is.legal still))
done_on D (Some before) mine w n valid is still no_entry =
    done_want (want_on D (Some before) mine n) no_entry (staged_moves D valid before mine is.1 is.0.legal n)

-- ---- a round

pub round_is : (old mid new : CoreState) (want : Want) (n : ℕ) → mid ≡ all_stepped old → new ≡ with_made (entry_wanted want) mid
    → ((origin : Option (List Entry)) (mine : List Entry) → IsOn mid.desc origin mine mid.world → want ≡ want_on mid.desc origin mine n)
    → IsRound old new n
round_is old mid new want n stepped made wants =
    let same = stepped_desc (device_count old.desc) old in
    record {
      want = want;
      made = made ∙ ap (with_made (entry_wanted want)) stepped;
      order = λ origin mine is.
          subst (λ (D : Desc). want ≡ want_on D origin mine n) (ap (λ (s : CoreState). s.desc) stepped ∙ same)
          (wants origin mine
          (subst (λ (s : CoreState). IsOn s.desc origin mine s.world) (sym stepped)
          (subst (λ (D : Desc). IsOn D origin mine (all_stepped old).world) (sym same) is)));
    }

wanted_longer : (asked : Want) (mid : CoreState) (entry : Entry) → asked ≡ Do entry → length (with_made (entry_wanted asked) mid).entries ≡ length mid.entries + 1
wanted_longer asked mid entry is =
    ap (λ (x : Want). length (with_made (entry_wanted x) mid).entries) is ∙ length-append mid.entries (entry ∷ [])

no_longer : (want : Want) (mid : CoreState) → ((entry : Entry) → want ≢ Do entry) → with_made (entry_wanted want) mid ≡ mid
no_longer (Do entry) mid none = absurd (none entry refl)
no_longer Wait mid none = refl
no_longer Done mid none = refl

made_more : (want : Want) (mid : CoreState) → length mid.entries ≤ length (with_made (entry_wanted want) mid).entries
made_more (Do entry) mid = let all = length-append mid.entries (entry ∷ []) in omega (arith, all)
made_more Wait mid = omega arith
made_more Done mid = omega arith

pub no_round : (core : CoreState) (n : ℕ) → ByRounds core core n
no_round core n = record { count = 0; rounds = refl }

pub one_round : (old mid new : CoreState) (n : ℕ) → ByRounds old mid n → IsRound mid new n → ByRounds old new n
one_round old mid new n by is = record { count = suc by.count; rounds = (mid, by.rounds, is) }

pub end_of : (old mid new : CoreState) (want : Want) (n : ℕ) → FitsDesc old.desc old.world → mid ≡ all_stepped old → new ≡ with_made (entry_wanted want) mid
    → ((origin : Option (List Entry)) (mine : List Entry) → IsOn mid.desc origin mine mid.world → want ≡ want_on mid.desc origin mine n)
    → length new.entries ≤ length old.entries → (origin : Option (List Entry)) (mine : List Entry) → IsOn new.desc origin mine new.world
    → IsAtEnd new.desc origin mine n
end_of old mid new want n fit stepped made wants short origin mine run =
    let longer : length mid.entries ≤ length new.entries =
    subst (λ (s : CoreState). length mid.entries ≤ length s.entries) (sym made) (made_more want mid) in
    let steps : length (all_stepped old).entries ≡ length mid.entries = ap (λ (s : CoreState). length s.entries) (sym stepped) in
    let still : Unmoved (device_count old.desc) old = unmoved (device_count old.desc) old (omega (arith, short, longer, steps)) in
    let more : length old.entries ≤ length mid.entries =
    subst (λ (k : ℕ). length old.entries ≤ k) steps (stepped_longer (device_count old.desc) old) in
    let same : mid ≡ old = stepped ∙ still.same in
    let none : (entry : Entry) → want ≢ Do entry = λ entry is.
    let one : length new.entries ≡ length mid.entries + 1 = ap (λ (s : CoreState). length s.entries) made ∙ wanted_longer want mid entry is in
    absurd (omega (arith, short, more, one)) in
    let whole_same : new ≡ old = made ∙ no_longer want mid none ∙ same in
    let run_old : IsOn old.desc origin mine old.world = subst (λ (s : CoreState). IsOn s.desc origin mine s.world) whole_same run in
    let is : want ≡ want_on old.desc origin mine n =
    subst (λ (D : Desc). want ≡ want_on D origin mine n) (ap (λ (s : CoreState). s.desc) same)
    (wants origin mine (subst (λ (s : CoreState). IsOn s.desc origin mine s.world) (sym same) run_old)) in
    let rests : AllStill old.desc (whole origin mine) = none_still old fit still.none origin mine run_old in
    subst (λ (s : CoreState). IsAtEnd s.desc origin mine n) (sym whole_same)
    (record { still = rests; done = done_on old.desc origin mine old.world n fit.valid run_old rests (λ entry e. none entry (is ∙ e)) })

-- ---- a move that is over

-- no device is held
pub over_free : (D : Desc) (past : List Entry) → IsValid D → IsLegal D past → is_over past ≡ true → (d : ℕ) → d < device_count D → hold_of d past ≡ None
over_free D [] valid legal over d inside = refl
over_free D (Abort ∷ past) valid legal over d inside = refl
over_free D (Resume ∷ past) valid legal over d inside = by (hold_of d past) refl
  where
    by : (hold : Option MigState) → hold_of d past ≡ hold → hold ≡ None
    by None is = refl
    by (Some to) is = absurd (false≢true (((keeps_states D valid (Resume ∷ past) legal).0 d inside).held to is))
over_free D (Hold e to ∷ past) valid legal over d inside =
    let order = met (may_be_held e past) Order ((is_decided D past, Decide) ∷ (is_next_to_stop_copy D e to past, Path) ∷ (is_quiet_for_hold D to past, Quiet) ∷ []) legal.1 in
    let two = and_parts (is_on past && not (is_joint past)) (is_none (hold_of e past)) order.0 in
    let one = and_parts (is_on past) (not (is_joint past)) two.0 in
    let moving = on_parts past one.0 in
    absurd (true≢false (sym over ∙ ap₂ (λ (a r : Bool). a || r) moving.0 moving.1))
over_free D (Arc e to ∷ past) valid legal over d inside =
    by_bool (e == d) (λ b. (if b then None else hold_of d past) ≡ None) (λ own. refl) (λ other. over_free D past valid legal.2 over d inside)
over_free D (entry ∷ past) valid legal over d inside = over_free D past valid legal.2 over d inside

module _ (D : Desc) (past : List Entry) (valid : IsValid D) (legal : IsLegal D past) (still : AllStill D past) (over : is_over past ≡ true)
    (home : all_stand_in D Running past ≡ true) where
  nothing_out : (d : ℕ) → d < device_count D → outstanding_of D d past ≡ []
  nothing_out d inside = (still_rests D past valid legal still).empty d inside

  -- the first pending request may be issued
  no_issue : (d : ℕ) → d < device_count D → (p : ℕ × ℕ) (more : List (ℕ × ℕ)) → (device_of (machine_of D past) d).pending ≡ p ∷ more → ⊥
  no_issue d inside p more pending = still (Issue d p.0) refl (lt-ltb d (device_count D) inside, fine)
    where
      window : nat_lt 0 (shape_at D d).window ≡ true
      window = let low = (valid.in_range.devices d inside).window_low in lt-ltb 0 (shape_at D d).window (omega (arith, low))

      turn : is_next_to_issue D d p.0 past ≡ true
      turn =
          ap₂ (λ (requests : List Outstanding) (list : List (ℕ × ℕ)). is_exactly p.0 (first_number (unissued requests list))
          && nat_lt (length requests) (shape_at D d).window && not (has_fence D d requests)
          && (not (fences D d (job_or_zero p.0 list)) || is_nothing requests)) (nothing_out d inside) pending
          ∙ ap₂ (λ (b c : Bool). b && c && true && (not (fences D d (job_or_zero p.0 (p ∷ more))) || true)) (eq-eqb p.0 p.0 refl) window
          ∙ or_right (not (fences D d (job_or_zero p.0 (p ∷ more)))) true refl

      allowed : is_request_allowed D d p.0 past ≡ true
      allowed =
          let state : state_of d past ≡ Running = same_is (state_of d past) Running (all_below_at (device_count D) (λ k. same_state (state_of k past) Running) d home inside) in
          let job = job_at D d (job_or_zero p.0 (device_of (machine_of D past) d).pending) in
          ap₂ (λ (hold : Option MigState) (state : MigState). is_running (unwrap_or hold state) || (is_p2p (unwrap_or hold state) && not (is_barred D d job)))
          (over_free D past valid legal over d inside) state

      yet : may_issue_yet D d past ≡ true
      yet =
          by_bool (is_begun past)
          (λ b. (b || is_aborted past || is_resumed past || nat_lt (issue_count d past) D.begin) ≡ true)
          (λ begun. refl)
          (λ unbegun. or_left (is_aborted past || is_resumed past) (nat_lt (issue_count d past) D.begin) over)

      fine : fault_of D past (Issue d p.0) ≡ None
      fine =
          ap (λ (b : Bool). first_failed ((b, Turn) ∷ (is_request_allowed D d p.0 past, Barred) ∷ (may_issue_yet D d past, Start) ∷ [])) turn
          ∙ ap₂ (λ (b c : Bool). first_failed ((b, Barred) ∷ (c, Start) ∷ [])) allowed yet

  idle : (d : ℕ) → d < device_count D → is_idle D d past ≡ true
  idle d inside = by (device_of (machine_of D past) d).pending refl
    where
      by : (pending : List (ℕ × ℕ)) → (device_of (machine_of D past) d).pending ≡ pending → is_idle D d past ≡ true
      by [] is = ap₂ (λ (list : List (ℕ × ℕ)) (requests : List Outstanding). is_nothing list && is_nothing requests) is (nothing_out d inside)
      by (p ∷ more) is = absurd (no_issue d inside p more is)

  pub over_ended : has_ended D past ≡ true
  over_ended = ap₂ (λ (b c : Bool). b && c) home (all_pass (device_count D) (λ d. is_idle D d past) idle)

-- where the order wants nothing any more, all are home
home_of_done : (D : Desc) (past : List Entry) (n : ℕ) → IsValid D → IsLegal D past → is_over past ≡ true → next_want D (look_after D past) n ≡ Done
    → all_stand_in D Running past ≡ true
home_of_done D past n valid legal over done =
    sym (cond-true (is_over past) (all_stand_in D Running past) (is_on past && is_joint past && is_last_begun past && is_no_pass_open D past) over)
    ∙ (done_of_done D valid past legal n done).0

pub ended_on : (D : Desc) (origin : Option (List Entry)) (mine : List Entry) (w : World) (n : ℕ) → IsValid D → IsOn D origin mine w
    → IsAtEnd D origin mine n → is_over (whole origin mine) ≡ true → has_ended D (whole origin mine) ≡ true
ended_on D None mine w n valid is end over =
    over_ended D mine valid is.legal end.still over (home_of_done D mine n valid is.legal over end.done)
ended_on D (Some before) mine w n valid is end over =
    over_ended D (mine ++ before) valid is.0.legal end.still over
    (home_of_done D (mine ++ before) n valid is.0.legal over (sym (staged_home D valid before mine n over) ∙ end.done))
