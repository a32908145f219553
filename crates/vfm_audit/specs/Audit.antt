-- What an audit of two journals answers.
use Rattle.std.specs.Prelude.{◌≡◌, List, Some, IsTrue, All}
use Rattle.vfm_types.specs.declared.desc.Desc.{Desc}
use Rattle.vfm_types.specs.declared.entry.Entry.{Entry}
use Rattle.vfm_plain.specs.Legal.{broken, is_entry_of}
use Rattle.vfm_audit.specs.declared.fault.AuditFault.{AuditFault}
use Rattle.vfm_audit.specs.declared.fault.AuditFault.TheVariants.{Broken, NoMemory}

-- each entry names a device, a page and a block that the machine has
abbrev pub AreEntriesOf : Desc → List Entry → Type 0
AreEntriesOf D entries = All (λ entry. IsTrue (is_entry_of D entry)) entries

-- The fault of a journal, oldest entry first: its first broken place, and the first rule that is broken there. That memory
-- ran out may be answered for any journal.
abbrev pub IsFaultOf : Desc → List Entry → AuditFault → Type 0
IsFaultOf D journal (Broken place rule) = broken D journal ≡ Some (place, rule)
IsFaultOf D journal NoMemory = Unit {0}
