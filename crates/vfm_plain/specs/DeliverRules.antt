-- When a request may reach its target.
use Rattle.std.specs.Prelude.{Bool, List, [], ℕ, ◌∷◌}
use Rattle.vfm_types.specs.declared.entry.Entry.{Entry}
use Rattle.vfm_types.specs.declared.entry.Rule.TheVariants.{Turn}
use Rattle.vfm_types.specs.declared.desc.Desc.{Desc}
use Rattle.vfm_types.specs.Outstanding.{is_undelivered, outstanding_of}
use Rattle.vfm_plain.specs.Condition.{Condition}

-- request n of device d is outstanding and waits for its delivery
abbrev pub is_waiting_for_delivery : Desc → ℕ → ℕ → List Entry → Bool
is_waiting_for_delivery D d n past = is_undelivered n (outstanding_of D d past)

-- the conditions, in the order in which they are tested
abbrev pub deliver_conditions : Desc → ℕ → ℕ → List Entry → List Condition
deliver_conditions D d n past =
    (is_waiting_for_delivery D d n past, Turn) ∷ []
