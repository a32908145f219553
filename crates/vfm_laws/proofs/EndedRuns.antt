-- What holds where a run has ended.
use Rattle.std.proofs.Common.{◌≡◌, ℕ, ◌+◌, ◌<◌, true, List, [], length, ap, arith, eqb-true}
use Rattle.std.proofs.lemmas.Bool.{and_parts}
use Rattle.std.proofs.lemmas.List.{nil_from_length}
use Rattle.vfm_types.specs.declared.desc.Desc.{Desc}
use Rattle.vfm_types.specs.declared.entry.Entry.{Entry}
use Rattle.vfm_types.specs.declared.state.MigState.TheVariants.{Running}
use Rattle.vfm_types.specs.Desc.{device_count}
use Rattle.vfm_base.specs.Least.{all_below}
use Rattle.vfm_types.specs.Outstanding.{outstanding_of}
use Rattle.vfm_types.specs.Words.{is_idle, is_nothing, all_stand_in}
use Rattle.vfm_types.specs.Valid.{IsValid}
use Rattle.vfm_plain.specs.Legal.{IsLegal}
use Rattle.vfm_plain.specs.Ended.{has_ended}
use Rattle.vfm_laws.specs.Queues.{device_after}
use Rattle.vfm_laws.proofs.Below.{all_below_at}
use Rattle.vfm_laws.proofs.KeptQueues.{keeps_queues}

-- a list with nothing in it is empty
pub nothing_empty : {X : Type 0} (xs : List X) → is_nothing xs ≡ true → xs ≡ []
nothing_empty xs nothing = nil_from_length xs (eqb-true (length xs) 0 nothing)

pub idle_parts : (D : Desc) (d : ℕ) (past : List Entry) → is_idle D d past ≡ true → ((device_after D d past).pending ≡ []) × (outstanding_of D d past ≡ [])
idle_parts D d past idle =
    let parts = and_parts (is_nothing (device_after D d past).pending) (is_nothing (outstanding_of D d past)) idle in
    (nothing_empty (device_after D d past).pending parts.0, nothing_empty (outstanding_of D d past) parts.1)

pub ended_idle : (D : Desc) (past : List Entry) → has_ended D past ≡ true → (d : ℕ) → d < device_count D
    → ((device_after D d past).pending ≡ []) × (outstanding_of D d past ≡ [])
ended_idle D past ended d inside =
    let parts = and_parts (all_stand_in D Running past) (all_below (device_count D) (λ k. is_idle D k past)) ended in
    idle_parts D d past (all_below_at (device_count D) (λ k. is_idle D k past) d parts.1 inside)

pub ended_pending : (D : Desc) (past : List Entry) → has_ended D past ≡ true → (d : ℕ) → d < device_count D → (device_after D d past).pending ≡ []
ended_pending D past ended d inside = (ended_idle D past ended d inside).0

pub ended_outstanding : (D : Desc) (past : List Entry) → has_ended D past ≡ true → (d : ℕ) → d < device_count D → outstanding_of D d past ≡ []
ended_outstanding D past ended d inside = (ended_idle D past ended d inside).1

pub accepted_is : (D : Desc) (past : List Entry) (d : ℕ) → IsValid D → IsLegal D past → d < device_count D
    → (device_after D d past).accepted ≡ (device_after D d past).done + length (device_after D d past).pending
accepted_is D past d valid legal inside = ((keeps_queues D valid past legal).1 d inside).count

pub ended_done : (D : Desc) (past : List Entry) → IsValid D → IsLegal D past → has_ended D past ≡ true → (d : ℕ) → d < device_count D
    → (device_after D d past).accepted ≡ (device_after D d past).done
ended_done D past valid legal ended d inside =
    let count = accepted_is D past d valid legal inside in
    let none : length (device_after D d past).pending ≡ 0 = ap (length {A = ℕ × ℕ}) (ended_pending D past ended d inside) in
    omega arith
