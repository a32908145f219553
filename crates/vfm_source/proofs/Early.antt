-- An arc fails only before the pass begins after which the source is to give up.
use Rattle.std.proofs.Common.{◌≡◌, ℕ, ◌<◌, ◌==◌, ◌&&◌, ◌||◌, not, Bool, true, false, nat_lt, nat_le, if◌then◌else◌, List, ◌∷◌, drop, Option, None, Some, Result, Ok, Err, OnOk, OnErr, IsFalse, refl, ap, ap₂, sym, ◌∙◌, subst, arith, eqb-true, ltb-true}
use Rattle.std.proofs.lemmas.Bool.{false≢true, true≢false, leb-false, lt-ltb}
use Rattle.vfm_types.specs.declared.desc.Desc.{Desc}
use Rattle.vfm_types.specs.declared.entry.Entry.{Entry}
use Rattle.vfm_types.specs.declared.entry.Entry.TheVariants.{Abort, Arc, Begin, Complete, Copy, Deliver, Fail, Issue, Pass}
use Rattle.vfm_types.specs.declared.state.MigState.TheVariants.{Running}
use Rattle.vfm_types.specs.Blocks.{is_no_pass_open}
use Rattle.vfm_types.specs.Phases.{is_begun, is_failed, pass_count}
use Rattle.vfm_base.specs.Least.{all_below, least_below}
use Rattle.vfm_laws.proofs.Rising.{by_bool}
use Rattle.vfm_quiet.specs.declared.move_look.MoveLook.{MoveLook}
use Rattle.vfm_quiet.specs.declared.want.Want.{Want}
use Rattle.vfm_quiet.specs.declared.want.Want.TheVariants.{Do, Wait, Done}
use Rattle.vfm_quiet.specs.Order.{beginning, do_for, first_line, is_abort_asked, lines, next_want, part_of_pass, rest_of_pass, way_home}
use Rattle.vfm_quiet.specs.Seen.{may_go_home, next_seen, sees_all_in, sees_warm}
use Rattle.vfm_order.specs.Coordinator.{is_coordinators}
use Rattle.vfm_order.specs.LookAfter.{is_over, look_after}
use Rattle.vfm_parts.specs.Steps.{after_on}
use Rattle.vfm_core.specs.CoreState.{CoreState}
use Rattle.vfm_drive.specs.Rounds.{with_made}
use Rattle.vfm_drive.specs.Runs.{want_on}
use Rattle.vfm_source.specs.Moving.{entry_made, is_abort, past_in}
use Rattle.vfm_source.specs.Offers.{has_passed}
use Rattle.vfm_source.specs.Rounds.{FailsEarly}
use Rattle.vfm_source.proofs.Moves.{past_more}

-- ---- when the order wants an arc to fail

-- it wants that
abbrev is_fail : Want → Bool
is_fail (Do (Fail d to)) = true
is_fail other = false

do_for_others : (entry : ℕ → Entry) (o : Option ℕ) (other : Want) → ((d : ℕ) → is_fail (Do (entry d)) ≡ false)
    → is_fail other ≡ false
    → is_fail (do_for entry o other) ≡ false
do_for_others entry None other each rest = rest
do_for_others entry (Some d) other each rest = each d

either : (b : Bool) (x y : Want) → is_fail x ≡ false → is_fail y ≡ false → is_fail (if b then x else y) ≡ false
either true x y one other = one
either false x y one other = other

home : (D : Desc) (look : MoveLook) → is_fail (way_home D look) ≡ false
home D look =
    do_for_others (λ d. Arc d (next_seen D look d Running)) (least_below look.count (λ d. may_go_home look d))
    (if sees_all_in look Running then Done else Wait) (λ d. refl)
    (either (sees_all_in look Running) Done Wait refl refl)

begins : (D : Desc) (look : MoveLook) → is_fail (beginning D look) ≡ false
begins D look = either (all_below look.count (λ d. sees_warm D look d)) (Do Begin) Wait refl refl

part : (device block : Option ℕ) → is_fail (part_of_pass device block) ≡ false
part None block = refl
part (Some d) None = refl
part (Some d) (Some b) = refl

rest : (look : MoveLook) → is_fail (rest_of_pass look) ≡ false
rest look = do_for_others Copy look.next_copy (part_of_pass look.part look.next_block) (λ p. refl)
    (part look.part look.next_block)

-- a line that wants no such thing isn't the one that applies
passed_over : (applies : Bool) (here : Want) (others : List (Bool × Want))
    → is_fail (first_line ((applies, here) ∷ others)) ≡ true
    → is_fail here ≡ false → (applies ≡ false) × (is_fail (first_line others) ≡ true)
passed_over true here others fails other = absurd (true≢false (sym fails ∙ other))
passed_over false here others fails other = (refl, fails)

-- after an arc that failed nothing is wanted but Abort
abort_first : (over failed : Bool) (here : Want) (others : List (Bool × Want)) → over ≡ false → failed ≡ true
    → first_line ((over, here) ∷ (failed, Do Abort) ∷ others) ≡ Do Abort
abort_first true failed here others going bad = absurd (true≢false going)
abort_first false true here others going bad = refl
abort_first false false here others going bad = absurd (false≢true bad)

module _ (D : Desc) (past : List Entry) (n : ℕ) where
  -- the lines from one on
  unfoldable from_line : ℕ → List (Bool × Want)
  from_line k = drop k (lines D (look_after D past) n)

  aborts : is_over past ≡ false → is_failed past ≡ true → next_want D (look_after D past) n ≡ Do Abort
  unfolding from_line
  aborts going failed = abort_first (is_over past) (is_failed past) (way_home D (look_after D past)) (from_line 2)
      going failed

  -- the newest pass has ended then, and the source isn't asked to give up
  record Unasked : Type 0 where
    unasked : is_abort_asked (look_after D past) n ≡ false
    ended : is_no_pass_open D past ≡ true

  fails_unasked : is_fail (next_want D (look_after D past) n) ≡ true → Unasked
  unfolding from_line
  fails_unasked wants =
      let look = look_after D past in
      let one = passed_over (is_over past) (way_home D look) (from_line 1) wants (home D look) in
      let two = passed_over (is_failed past) (Do Abort) (from_line 2) one.1 refl in
      let three = passed_over (is_abort_asked look n) (Do Abort) (from_line 3) two.1 refl in
      let four = passed_over (not (is_begun past)) (beginning D look) (from_line 4) three.1 (begins D look) in
      let five = passed_over (not (is_no_pass_open D past)) (rest_of_pass look) (from_line 5) four.1 (rest look) in
      record { unasked = three.0; ended = ended_by (is_no_pass_open D past) five.0 }
    where
      ended_by : (b : Bool) → not b ≡ false → b ≡ true
      ended_by true open_ = refl
      ended_by false open_ = absurd (true≢false open_)

  -- so the pass hasn't begun
  fails_early : is_fail (next_want D (look_after D past) n) ≡ true → 0 < n → pass_count past < n
  fails_early wants some =
      let is = fails_unasked wants in
      by_bool (nat_le n (pass_count past)) (λ b. pass_count past < n)
      (λ reached.
      absurd (true≢false
      (sym (ap₂ (λ (a b : Bool). a && b && is_no_pass_open D past) (lt-ltb 0 n some) reached ∙ is.ended) ∙ is.unasked)))
      (λ short. leb-false n (pass_count past) short)

-- ---- what keeps it

-- an entry that the order wants
made_early : (D : Desc) (past : List Entry) (n : ℕ) (entry : Entry) → is_over past ≡ false
    → next_want D (look_after D past) n ≡ Do entry
    → FailsEarly n past → FailsEarly n (entry ∷ past)
made_early D past n (Fail d to) going want early = λ some failed. fails_early D past n (ap is_fail want) some
made_early D past n Abort going want early = λ some failed. absurd (false≢true failed)
made_early D past n (Pass k) going want early = λ some failed. absurd
    (pass_is_no_abort k (sym want ∙ aborts D past n going failed))
  where
    pass_is_no_abort : (j : ℕ) → Do (Pass j) ≡ Do Abort → ⊥
    pass_is_no_abort j same = cc
made_early D past n entry going want early = early

-- a turn of the coordinator
pub turn_early : (core : CoreState) (n : ℕ) → is_over (past_in core) ≡ false → FailsEarly n (past_in core)
    → FailsEarly n (past_in (with_made (entry_made (want_on core.desc None (past_in core) n)) core))
turn_early core n going early = by (want_on core.desc None (past_in core) n) refl
  where
    made : (entry : Entry) → want_on core.desc None (past_in core) n ≡ Do entry → (b : Bool)
        → FailsEarly n (past_in (with_made (if b then None else Some entry) core))
    made entry want true = early
    made entry want false =
        subst (FailsEarly n) (sym (past_more core entry (after_on core.desc core.world entry)))
        (made_early core.desc (past_in core) n entry going want early)

    by : (want : Want) → want_on core.desc None (past_in core) n ≡ want
        → FailsEarly n (past_in (with_made (entry_made want) core))
    by (Do entry) is = made entry is (is_abort entry)
    by Wait is = early
    by Done is = early

pub turn_early_by : {T E : Type 0} (r : Result T E) (core new : CoreState) (n : ℕ)
    → OnOk r (new ≡ with_made (entry_made (want_on core.desc None (past_in core) n)) core) → OnErr r (new ≡ core)
    → is_over (past_in core) ≡ false → FailsEarly n (past_in core) → FailsEarly n (past_in new)
turn_early_by (Ok value) core new n made unmade going early =
    subst (λ (s : CoreState). FailsEarly n (past_in s)) (sym made) (turn_early core n going early)
turn_early_by (Err e) core new n made unmade going early = subst (λ (s : CoreState). FailsEarly n (past_in s))
    (sym unmade) early

-- an entry of a request
pub request_early : (n : ℕ) (entry : Entry) (past : List Entry) → is_coordinators entry ≡ false → FailsEarly n past
    → FailsEarly n (entry ∷ past)
request_early n (Issue e k) past own early = early
request_early n (Deliver e k) past own early = early
request_early n (Complete e k) past own early = early
request_early n entry past own early = absurd (true≢false own)

-- ---- what it says

-- then the pass hasn't ended
pub not_passed : (D : Desc) (n : ℕ) (past : List Entry) → pass_count past < n → IsFalse (has_passed D n past)
not_passed D n past early =
    ap₂ (λ (a b : Bool). a || (b && is_no_pass_open D past)) (by_bool (nat_lt n (pass_count past)) (λ b. b ≡ false)
    (λ later. let over = ltb-true n (pass_count past) later in absurd (omega (arith, over, early))) (λ other. refl))
    (by_bool (pass_count past == n) (λ b. b ≡ false)
    (λ same. let is = eqb-true (pass_count past) n same in absurd (omega (arith, is, early))) (λ other. refl))
