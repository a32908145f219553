-- The steps of a device that are allowed now, in their order, and which of them a number picks.
use Rattle.std.specs.Prelude.{ℕ, zero, suc, ◌%◌, if◌then◌else◌, is_none, List, [], ◌∷◌, ◌++◌, length, Option, None, Some, unwrap_or}
use Rattle.vfm_types.specs.declared.desc.Desc.{Desc}
use Rattle.vfm_types.specs.declared.entry.Entry.{Entry}
use Rattle.vfm_types.specs.declared.entry.Entry.TheVariants.{Issue, Deliver, Complete}
use Rattle.vfm_types.specs.Outstanding.{Outstanding}
use Rattle.vfm_plain.specs.IssueRules.{first_number}
use Rattle.vfm_parts.specs.Parts.{Dev}
use Rattle.vfm_parts_laws.specs.LooksIn.{issue_barred_in, unissued_in}

-- a completion for each of these requests of device d that was delivered, in the order of their issue
abbrev pub completions : ℕ → List Outstanding → List Entry
completions d [] = []
completions d (r ∷ requests) =
    if r.is_delivered then Complete d r.number ∷ completions d requests else completions d requests

-- a delivery for each of them that waits for it, in the order of their issue
abbrev pub deliveries : ℕ → List Outstanding → List Entry
deliveries d [] = []
deliveries d (r ∷ requests) =
    if r.is_delivered then deliveries d requests else Deliver d r.number ∷ deliveries d requests

-- the issue of the next request, if no rule bars it
abbrev pub issue_if_allowed : Desc → ℕ → Dev → List Entry
issue_if_allowed D d dev =
    if is_none (issue_barred_in D d dev) then Issue d (unwrap_or (first_number (unissued_in dev)) 0) ∷ [] else []

-- the steps of device d that are allowed: completions, then deliveries, then the next issue
abbrev pub enabled_steps : Desc → ℕ → Dev → List Entry
enabled_steps D d dev = completions d dev.requests ++ (deliveries d dev.requests ++ issue_if_allowed D d dev)

-- the entry at place k of these, if there is one
abbrev pub entry_at : List Entry → ℕ → Option Entry
entry_at [] k = None
entry_at (entry ∷ entries) zero = Some entry
entry_at (entry ∷ entries) (suc k) = entry_at entries k

-- the entry that a number picks: that at the place of its remainder by how many there are
abbrev pub picked : List Entry → ℕ → Option Entry
picked entries pick = entry_at entries (pick % length entries)
