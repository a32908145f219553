-- Next states: which of them a device has, and where a path leads to the next state of the table.
use Rattle.std.proofs.Common.{◌≡◌, ℕ, ◌&&◌, true, false, if◌then◌else◌, Option, Some, None, Result, Ok, Err, refl, ap}
use Rattle.std.proofs.lemmas.Bool.{true≢false}
use Rattle.vfm_types.specs.declared.state.MigState.{MigState}
use Rattle.vfm_types.specs.declared.state.MigState.TheVariants.{Error, Stop, Running, StopCopy, Resuming, RunningP2p, PreCopy, PreCopyP2p}
use Rattle.vfm_types.specs.declared.state.PathFault.{PathFault}
use Rattle.vfm_types.specs.State.{has_p2p, has_pre_copy}
use Rattle.vfm_types.specs.Paths.{same_state, supports, next_towards, path_refusal}
use Rattle.vfm_laws.proofs.Rising.{by_bool}
use Rattle.vfm_quiet.specs.Seen.{next_or_stay}

-- where no path is refused, the next state is the table's
unrefused : (from to : MigState) (bits : ℕ) → path_refusal from to bits ≡ None → next_or_stay from to bits ≡ next_towards from to bits
unrefused from to bits none =
    ap (λ (o : Option PathFault).
    elim (elim o as (λ _. Result MigState PathFault) [ None ↦ Ok (next_towards from to bits) | Some fault ↦ Err fault ]) [ Ok next ↦ next | Err _ ↦ from ]) none

-- a device that stands in a state that it has finds its way home
pub home_is_next : (from : MigState) (bits : ℕ) → supports bits from ≡ true → same_state from Error ≡ false
    → next_or_stay from Running bits ≡ next_towards from Running bits
home_is_next Error bits has known = absurd (true≢false known)
home_is_next Stop bits has known = refl
home_is_next Running bits has known = refl
home_is_next StopCopy bits has known = refl
home_is_next Resuming bits has known = refl
home_is_next RunningP2p bits has known = rw (has, next_or_stay) refl
home_is_next PreCopy bits has known = rw (has, next_or_stay) refl
home_is_next PreCopyP2p bits has known = rw (has, next_or_stay) refl

-- and its way to STOP_COPY
pub out_is_next : (from : MigState) (bits : ℕ) → supports bits from ≡ true → same_state from Error ≡ false
    → next_or_stay from StopCopy bits ≡ next_towards from StopCopy bits
out_is_next Error bits has known = absurd (true≢false known)
out_is_next Stop bits has known = refl
out_is_next Running bits has known = refl
out_is_next StopCopy bits has known = refl
out_is_next Resuming bits has known = refl
out_is_next RunningP2p bits has known = rw (has, next_or_stay) refl
out_is_next PreCopy bits has known = unrefused PreCopy StopCopy bits (rw has refl)
out_is_next PreCopyP2p bits has known = rw (has, next_or_stay) refl

-- the next state home is one that the device has
pub home_is_had : (from : MigState) (bits : ℕ) → same_state from Error ≡ false → supports bits (next_towards from Running bits) ≡ true
home_is_had Error bits known = absurd (true≢false known)
home_is_had Stop bits known =
    by_bool (has_p2p bits) (λ b. has_p2p bits ≡ b → supports bits (if b then RunningP2p else Running) ≡ true) (λ has e. e) (λ lacks e. refl) refl
home_is_had Running bits known = refl
home_is_had StopCopy bits known = refl
home_is_had Resuming bits known = refl
home_is_had RunningP2p bits known = refl
home_is_had PreCopy bits known = refl
home_is_had PreCopyP2p bits known =
    by_bool (has_p2p bits) (λ b. has_p2p bits ≡ b → supports bits (if b then RunningP2p else Running) ≡ true) (λ has e. e) (λ lacks e. refl) refl

-- the next state towards STOP_COPY is one that the device has, and never RESUMING
pub out_is_had : (from : MigState) (bits : ℕ) → same_state from Error ≡ false → supports bits (next_towards from StopCopy bits) ≡ true
out_is_had Error bits known = absurd (true≢false known)
out_is_had Stop bits known = refl
out_is_had Running bits known =
    by_bool (has_p2p bits) (λ b. has_p2p bits ≡ b → supports bits (if b then RunningP2p else Stop) ≡ true) (λ has e. e) (λ lacks e. refl) refl
out_is_had StopCopy bits known = refl
out_is_had Resuming bits known = refl
out_is_had RunningP2p bits known = refl
out_is_had PreCopy bits known =
    by_bool (has_p2p bits && has_pre_copy bits) (λ b. (has_p2p bits && has_pre_copy bits) ≡ b → supports bits (if b then PreCopyP2p else StopCopy) ≡ true)
    (λ has e. e) (λ lacks e. refl) refl
out_is_had PreCopyP2p bits known = refl

pub out_not_resuming : (from : MigState) (bits : ℕ) → same_state from Error ≡ false → same_state (next_towards from StopCopy bits) Resuming ≡ false
out_not_resuming Error bits known = absurd (true≢false known)
out_not_resuming Stop bits known = refl
out_not_resuming Running bits known =
    by_bool (has_p2p bits) (λ b. same_state (if b then RunningP2p else Stop) Resuming ≡ false) (λ has. refl) (λ lacks. refl)
out_not_resuming StopCopy bits known = refl
out_not_resuming Resuming bits known = refl
out_not_resuming RunningP2p bits known = refl
out_not_resuming PreCopy bits known =
    by_bool (has_p2p bits && has_pre_copy bits) (λ b. same_state (if b then PreCopyP2p else StopCopy) Resuming ≡ false) (λ has. refl) (λ lacks. refl)
out_not_resuming PreCopyP2p bits known = refl

-- a state is the same as itself
pub same_self : (state : MigState) → same_state state state ≡ true
same_self Error = refl
same_self Stop = refl
same_self Running = refl
same_self StopCopy = refl
same_self Resuming = refl
same_self RunningP2p = refl
same_self PreCopy = refl
same_self PreCopyP2p = refl
