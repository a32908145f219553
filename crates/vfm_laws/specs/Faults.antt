-- Runs with a fault: every place that breaks a rule, and whether the run would be clean if it were made all the same.
use Rattle.std.specs.Prelude.{ℕ, ◌+◌, ◌&&◌, Bool, true, List, [], ◌∷◌, Option, Some, None}
use Rattle.vfm_types.specs.declared.entry.Entry.{Entry}
use Rattle.vfm_types.specs.declared.entry.Rule.{Rule}
use Rattle.vfm_types.specs.declared.desc.Desc.{Desc}
use Rattle.vfm_plain.specs.Rules.{fault_of}
use Rattle.vfm_plain.specs.Clean.{is_clean_step}

-- a fault before others, if there is one
abbrev pub with_fault : ℕ → Option Rule → List (ℕ × Rule) → List (ℕ × Rule)
with_fault place None faults = faults
with_fault place (Some rule) faults = (place, rule) ∷ faults

-- each entry that breaks a rule over what stands before it, broken entries too, with its place and the first rule
abbrev pub faults_from : Desc → List Entry → ℕ → List Entry → List (ℕ × Rule)
faults_from D past place [] = []
faults_from D past place (entry ∷ entries) = with_fault place (fault_of D past entry) (faults_from D (entry ∷ past) (place + 1) entries)

abbrev pub faults_of : Desc → List Entry → List (ℕ × Rule)
faults_of D journal = faults_from D [] 0 journal

-- each delivery of the journal is clean
abbrev pub is_clean_from : Desc → List Entry → List Entry → Bool
is_clean_from D past [] = true
is_clean_from D past (entry ∷ entries) = is_clean_step D past entry && is_clean_from D (entry ∷ past) entries

abbrev pub is_clean_run : Desc → List Entry → Bool
is_clean_run D journal = is_clean_from D [] journal
