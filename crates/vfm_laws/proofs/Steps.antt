-- The steps of paths, and what follows from a step for the groups of states at its two ends.
use Rattle.std.proofs.Common.{◌≡◌, ℕ, Bool, true, false, ◌&&◌, if◌then◌else◌, Some, refl, ap, sym, ◌∙◌, eqb-true}
use Rattle.std.proofs.lemmas.Bool.{false≢true, true≢false}
use Rattle.vfm_types.specs.declared.state.MigState.{MigState}
use Rattle.vfm_types.specs.declared.state.MigState.TheVariants.{Error, Stop, Running, StopCopy, Resuming, RunningP2p, PreCopy, PreCopyP2p}
use Rattle.vfm_types.specs.State.{state_number, state_of_number, has_p2p, has_pre_copy}
use Rattle.vfm_types.specs.Paths.{same_state, next_towards}
use Rattle.vfm_types.specs.Arcs.{is_running, is_p2p, is_stopped}
use Rattle.vfm_plain.specs.ArcRules.{is_entering_p2p, is_stopping, is_leaving_p2p}
use Rattle.vfm_laws.specs.Standing.{is_hold_step, is_arc_step, is_quiet_state}
use Rattle.vfm_laws.proofs.Rising.{by_bool}

number_back : (state : MigState) → state_of_number (state_number state) ≡ Some state
number_back Error = refl
number_back Stop = refl
number_back Running = refl
number_back StopCopy = refl
number_back Resuming = refl
number_back RunningP2p = refl
number_back PreCopy = refl
number_back PreCopyP2p = refl

some_same : (a b : MigState) → Some a ≡ Some b → a ≡ b
some_same a b same = cc

-- states with one number are one
pub same_is : (a b : MigState) → same_state a b ≡ true → a ≡ b
same_is a b same =
    some_same a b (sym (number_back a) ∙ ap state_of_number (eqb-true (state_number a) (state_number b) same) ∙ number_back b)

-- the next state towards STOP_COPY of a device that isn't stopped
pub hold_step : (from : MigState) (bits : ℕ) → is_stopped from ≡ false → same_state from Error ≡ false
    → is_hold_step from (next_towards from StopCopy bits) ≡ true
hold_step Error bits awake known = absurd (true≢false known)
hold_step Stop bits awake known = absurd (true≢false awake)
hold_step StopCopy bits awake known = absurd (true≢false awake)
hold_step Resuming bits awake known = absurd (true≢false awake)
hold_step Running bits awake known =
    by_bool (has_p2p bits) (λ b. is_hold_step Running (if b then RunningP2p else Stop) ≡ true) (λ has. refl) (λ lacks. refl)
hold_step RunningP2p bits awake known = refl
hold_step PreCopy bits awake known =
    by_bool (has_p2p bits && has_pre_copy bits) (λ b. is_hold_step PreCopy (if b then PreCopyP2p else StopCopy) ≡ true) (λ has. refl) (λ lacks. refl)
hold_step PreCopyP2p bits awake known = refl

-- the next state towards RUNNING
pub home_step : (from : MigState) (bits : ℕ) → same_state from Running ≡ false → same_state from Error ≡ false
    → is_arc_step from (next_towards from Running bits) ≡ true
home_step Error bits away known = absurd (true≢false known)
home_step Running bits away known = absurd (true≢false away)
home_step Stop bits away known =
    by_bool (has_p2p bits) (λ b. is_arc_step Stop (if b then RunningP2p else Running) ≡ true) (λ has. refl) (λ lacks. refl)
home_step StopCopy bits away known = refl
home_step Resuming bits away known = refl
home_step RunningP2p bits away known = refl
home_step PreCopy bits away known = refl
home_step PreCopyP2p bits away known =
    by_bool (has_p2p bits) (λ b. is_arc_step PreCopyP2p (if b then RunningP2p else Running) ≡ true) (λ has. refl) (λ lacks. refl)

-- a device with the peer-to-peer states goes home from STOP through RUNNING_P2P
pub home_from_stop : (bits : ℕ) → has_p2p bits ≡ true → next_towards Stop Running bits ≡ RunningP2p
home_from_stop bits has = ap (λ (b : Bool). if b then RunningP2p else Running) has

-- a step for which a device is held is an arc of a move
pub hold_arc : (from to : MigState) → is_hold_step from to ≡ true → is_arc_step from to ≡ true
hold_arc Running RunningP2p step = refl
hold_arc Running Stop step = refl
hold_arc PreCopy PreCopyP2p step = refl
hold_arc PreCopy StopCopy step = refl
hold_arc RunningP2p Stop step = refl
hold_arc PreCopyP2p StopCopy step = refl
hold_arc _ _ step = absurd (false≢true step)

-- a device that is held isn't stopped, and not held for a running state
pub hold_awake : (from to : MigState) → is_hold_step from to ≡ true → is_stopped from ≡ false
hold_awake Running RunningP2p step = refl
hold_awake Running Stop step = refl
hold_awake PreCopy PreCopyP2p step = refl
hold_awake PreCopy StopCopy step = refl
hold_awake RunningP2p Stop step = refl
hold_awake PreCopyP2p StopCopy step = refl
hold_awake _ _ step = absurd (false≢true step)

pub hold_slow : (from to : MigState) → is_hold_step from to ≡ true → is_running to ≡ false
hold_slow Running RunningP2p step = refl
hold_slow Running Stop step = refl
hold_slow PreCopy PreCopyP2p step = refl
hold_slow PreCopy StopCopy step = refl
hold_slow RunningP2p Stop step = refl
hold_slow PreCopyP2p StopCopy step = refl
hold_slow _ _ step = absurd (false≢true step)

pub running_awake : (state : MigState) → is_running state ≡ true → is_stopped state ≡ false
running_awake Running running = refl
running_awake PreCopy running = refl
running_awake _ running = absurd (false≢true running)

pub p2p_awake : (state : MigState) → is_p2p state ≡ true → is_stopped state ≡ false
p2p_awake RunningP2p p2p = refl
p2p_awake PreCopyP2p p2p = refl
p2p_awake _ p2p = absurd (false≢true p2p)

pub running_wild : (state : MigState) → is_running state ≡ true → is_quiet_state state ≡ false
running_wild Running running = refl
running_wild PreCopy running = refl
running_wild _ running = absurd (false≢true running)

pub arc_known : (from to : MigState) → is_arc_step from to ≡ true → same_state to Error ≡ false
arc_known Running PreCopy step = refl
arc_known Running RunningP2p step = refl
arc_known Running Stop step = refl
arc_known PreCopy PreCopyP2p step = refl
arc_known PreCopy StopCopy step = refl
arc_known PreCopy Running step = refl
arc_known RunningP2p Stop step = refl
arc_known RunningP2p Running step = refl
arc_known PreCopyP2p StopCopy step = refl
arc_known PreCopyP2p RunningP2p step = refl
arc_known PreCopyP2p Running step = refl
arc_known Stop StopCopy step = refl
arc_known Stop RunningP2p step = refl
arc_known Stop Running step = refl
arc_known StopCopy Stop step = refl
arc_known Resuming Stop step = refl
arc_known _ _ step = absurd (false≢true step)

-- why an arc leads to a stopped state: it stops the device, or finds it stopped
pub data StopCause (from to : MigState) : Type 0 where
  halts : is_stopping from to ≡ true → StopCause from to
  was_stopped : is_stopped from ≡ true → StopCause from to

pub stop_cause : (from to : MigState) → is_arc_step from to ≡ true → is_stopped to ≡ true → StopCause from to
stop_cause Running Stop step still = halts refl
stop_cause PreCopy StopCopy step still = halts refl
stop_cause RunningP2p Stop step still = halts refl
stop_cause PreCopyP2p StopCopy step still = halts refl
stop_cause Stop StopCopy step still = was_stopped refl
stop_cause StopCopy Stop step still = was_stopped refl
stop_cause Resuming Stop step still = was_stopped refl
stop_cause Running PreCopy step still = absurd (false≢true still)
stop_cause Running RunningP2p step still = absurd (false≢true still)
stop_cause PreCopy PreCopyP2p step still = absurd (false≢true still)
stop_cause PreCopy Running step still = absurd (false≢true still)
stop_cause RunningP2p Running step still = absurd (false≢true still)
stop_cause PreCopyP2p RunningP2p step still = absurd (false≢true still)
stop_cause PreCopyP2p Running step still = absurd (false≢true still)
stop_cause Stop RunningP2p step still = absurd (false≢true still)
stop_cause Stop Running step still = absurd (false≢true still)
stop_cause _ _ step still = absurd (false≢true step)

-- why an arc leads to a state that isn't running: it comes from one, or enters a peer-to-peer state, or stops the device
pub data SlowCause (from to : MigState) : Type 0 where
  was_slow : is_running from ≡ false → SlowCause from to
  enters : is_entering_p2p from to ≡ true → SlowCause from to
  slow_halts : is_stopping from to ≡ true → SlowCause from to

pub slow_cause : (from to : MigState) → is_arc_step from to ≡ true → is_running to ≡ false → SlowCause from to
slow_cause Running RunningP2p step slow = enters refl
slow_cause PreCopy PreCopyP2p step slow = enters refl
slow_cause Running Stop step slow = slow_halts refl
slow_cause PreCopy StopCopy step slow = slow_halts refl
slow_cause RunningP2p Stop step slow = was_slow refl
slow_cause PreCopyP2p StopCopy step slow = was_slow refl
slow_cause PreCopyP2p RunningP2p step slow = was_slow refl
slow_cause Stop StopCopy step slow = was_slow refl
slow_cause Stop RunningP2p step slow = was_slow refl
slow_cause StopCopy Stop step slow = was_slow refl
slow_cause Resuming Stop step slow = was_slow refl
slow_cause Running PreCopy step slow = absurd (true≢false slow)
slow_cause PreCopy Running step slow = absurd (true≢false slow)
slow_cause RunningP2p Running step slow = absurd (true≢false slow)
slow_cause PreCopyP2p Running step slow = absurd (true≢false slow)
slow_cause Stop Running step slow = absurd (true≢false slow)
slow_cause _ _ step slow = absurd (false≢true step)

-- where an arc from a tame state leads: to a tame one, or out of the peer-to-peer states, or from STOP past them
pub data TameCause (from to : MigState) : Type 0 where
  stays : is_quiet_state to ≡ true → TameCause from to
  leaves : is_leaving_p2p from to ≡ true → TameCause from to
  leaps : from ≡ Stop → to ≡ Running → TameCause from to

pub tame_cause : (from to : MigState) → is_arc_step from to ≡ true → is_quiet_state from ≡ true → TameCause from to
tame_cause RunningP2p Running step tame = leaves refl
tame_cause PreCopyP2p Running step tame = leaves refl
tame_cause Stop Running step tame = leaps refl refl
tame_cause RunningP2p Stop step tame = stays refl
tame_cause PreCopyP2p StopCopy step tame = stays refl
tame_cause PreCopyP2p RunningP2p step tame = stays refl
tame_cause Stop StopCopy step tame = stays refl
tame_cause Stop RunningP2p step tame = stays refl
tame_cause StopCopy Stop step tame = stays refl
tame_cause Resuming Stop step tame = stays refl
tame_cause Running PreCopy step tame = absurd (false≢true tame)
tame_cause Running RunningP2p step tame = absurd (false≢true tame)
tame_cause Running Stop step tame = absurd (false≢true tame)
tame_cause PreCopy PreCopyP2p step tame = absurd (false≢true tame)
tame_cause PreCopy StopCopy step tame = absurd (false≢true tame)
tame_cause PreCopy Running step tame = absurd (false≢true tame)
tame_cause _ _ step tame = absurd (false≢true step)
