-- When a device may learn that its request is done.
use Rattle.std.specs.Prelude.{Bool, List, [], ℕ, ◌∷◌}
use Rattle.vfm_types.specs.declared.entry.Entry.{Entry}
use Rattle.vfm_types.specs.declared.entry.Rule.TheVariants.{Turn}
use Rattle.vfm_types.specs.declared.desc.Desc.{Desc}
use Rattle.vfm_types.specs.Outstanding.{is_arrived, outstanding_of}
use Rattle.vfm_plain.specs.Condition.{Condition}

-- request n of device d is outstanding and has reached its target
abbrev pub has_been_delivered : Desc → ℕ → ℕ → List Entry → Bool
has_been_delivered D d n past = is_arrived n (outstanding_of D d past)

-- the conditions, in the order in which they are tested
abbrev pub complete_conditions : Desc → ℕ → ℕ → List Entry → List Condition
complete_conditions D d n past =
    (has_been_delivered D d n past, Turn) ∷ []
