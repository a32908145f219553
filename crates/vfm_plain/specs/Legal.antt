-- Legal runs: every entry meets the conditions of its kind over what stands before it.
use Rattle.std.specs.Prelude.{◌≡◌, ℕ, ◌+◌, ◌&&◌, Bool, true, nat_lt, List, [], ◌∷◌, Option, Some, None, IsTrue}
use Rattle.vfm_types.specs.declared.entry.Entry.{Entry}
use Rattle.vfm_types.specs.declared.entry.Entry.TheVariants.{Issue, Deliver, Complete, Hold, Arc, Fail, Report, Pass, Copy, Block, Dry, Begin, Joint, Abort, Resume}
use Rattle.vfm_types.specs.declared.entry.Rule.{Rule}
use Rattle.vfm_types.specs.declared.desc.Desc.{Desc}
use Rattle.vfm_types.specs.Desc.{device_count, shape_at, block_count}
use Rattle.vfm_plain.specs.Rules.{fault_of}

-- the entry names a device, a page and a block that the machine has
abbrev pub is_entry_of : Desc → Entry → Bool
is_entry_of D (Issue d n) = nat_lt d (device_count D)
is_entry_of D (Deliver d n) = nat_lt d (device_count D)
is_entry_of D (Complete d n) = nat_lt d (device_count D)
is_entry_of D (Hold d to) = nat_lt d (device_count D)
is_entry_of D (Arc d to) = nat_lt d (device_count D)
is_entry_of D (Fail d to) = nat_lt d (device_count D)
is_entry_of D (Report d) = nat_lt d (device_count D)
is_entry_of D (Pass k) = true
is_entry_of D (Copy p) = nat_lt p D.pages
is_entry_of D (Block d b) = nat_lt d (device_count D) && nat_lt b (block_count (shape_at D d))
is_entry_of D (Dry d) = nat_lt d (device_count D)
is_entry_of D Begin = true
is_entry_of D Joint = true
is_entry_of D Abort = true
is_entry_of D Resume = true

-- The list, newest first, is a legal run of the described machine.
abbrev pub IsLegal : Desc → List Entry → Type 0
IsLegal D [] = Unit {0}
IsLegal D (entry ∷ past) = IsTrue (is_entry_of D entry) × (fault_of D past entry ≡ None) × IsLegal D past

-- the place and the rule of a fault, if there is one here, else that of the rest
abbrev pub fault_here : ℕ → Option Rule → Option (ℕ × Rule) → Option (ℕ × Rule)
fault_here place None rest = rest
fault_here place (Some rule) rest = Some (place, rule)

-- The first entry of a list, oldest first, that breaks a rule, with the first rule that it breaks; its place is
-- counted from the number given, and what stood before it is given newest first.
abbrev pub broken_from : Desc → List Entry → ℕ → List Entry → Option (ℕ × Rule)
broken_from D past place [] = None
broken_from D past place (entry ∷ entries) =
    fault_here place (fault_of D past entry) (broken_from D (entry ∷ past) (place + 1) entries)

-- the first broken place of a journal, oldest first, and its first broken rule
abbrev pub broken : Desc → List Entry → Option (ℕ × Rule)
broken D journal = broken_from D [] 0 journal
