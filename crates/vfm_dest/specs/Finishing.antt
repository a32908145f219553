-- What a destination does once Go is due.
use Rattle.std.specs.Prelude.{◌≡◌, ℕ, ◌∷◌, ◌++◌, ⊤, Result, Ok, Err, List, reverse, IsTrue, Some}
use Rattle.vfm_types.specs.declared.entry.Entry.{Entry}
use Rattle.vfm_types.specs.declared.entry.Entry.TheVariants.{Resume}
use Rattle.vfm_types.specs.Deliveries.{delivers}
use Rattle.vfm_types.specs.Requests.{plain}
use Rattle.vfm_plain.specs.Clean.{IsClean}
use Rattle.vfm_plain.specs.Ended.{has_ended}
use Rattle.vfm_plain.specs.Legal.{IsLegal}
use Rattle.vfm_control.specs.declared.ends.DestEnd.TheVariants as dest
use Rattle.vfm_control.specs.declared.ends.PairEvent.TheVariants.{DeliverGo}
use Rattle.vfm_control.specs.Calls.{LeadsTo}
use Rattle.vfm_control.specs.Pair.{PairState}
use Rattle.vfm_core.specs.CoreState.{CoreState}
use Rattle.vfm_core.specs.Machines.{machine_in}
use Rattle.vfm_handshake.specs.declared.fault.GoFault.{GoFault}
use Rattle.vfm_handshake.specs.declared.fault.GoFault.TheVariants as going

-- an answer without what is given at Ok
abbrev pub without_value : {T E : Type 0} → Result T E → Result ⊤ E
without_value (Ok value) = Ok tt
without_value (Err fault) = Err fault

-- The core resumed first and went on, and its entries, joined to those of a list before, are one legal and clean list which
-- has ended; its machine is the plain machine that does what this list delivers.
pub record HasJoined (before : List Entry) (core : CoreState) : Type 0 where
  pub more : List Entry
  pub journal : core.entries ≡ Resume ∷ reverse more
  pub legal : IsLegal core.desc (more ++ Resume ∷ before)
  pub clean : IsClean core.desc (more ++ Resume ∷ before)
  pub ended : IsTrue (has_ended core.desc (more ++ Resume ∷ before))
  pub machine : plain core.desc (delivers (reverse (more ++ Resume ∷ before))) ≡ Some (machine_in core.world)

-- In the machine of both ends, what the answer to its Go is: with the digest that was staged the destination then runs, and
-- with another nothing changes. No other answer is given but where the link failed.
abbrev pub StepsPair : PairState → List ℕ → Result CoreState GoFault → Type 0
StepsPair p digest (Ok core) = LeadsTo p DeliverGo (record p { dest = dest.Running digest })
StepsPair p digest (Err (going.Other ours theirs)) = LeadsTo p DeliverGo p
StepsPair p digest (Err (going.NoGo heard)) = ⊥
StepsPair p digest (Err going.Link) = Unit {0}
