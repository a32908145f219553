-- Whether the parts, made entry by entry, allow a journal and are at each of its places what the facts say.
use Rattle.std.specs.Prelude.{ℕ, ◌+◌, ◌==◌, ◌&&◌, not, Bool, true, false, drop, is_none, reverse, take, List, [], ◌∷◌, ◌++◌, Option, Some, None}
use Rattle.std.specs.List.{list_all}
use Rattle.vfm_types.specs.declared.desc.Desc.{Desc}
use Rattle.vfm_types.specs.declared.entry.Entry.{Entry}
use Rattle.vfm_types.specs.declared.state.MigState.{MigState}
use Rattle.vfm_types.specs.Paths.{same_state}
use Rattle.vfm_types.specs.Machine.{DeviceState}
use Rattle.vfm_types.specs.Outstanding.{Outstanding}
use Rattle.vfm_types.specs.Desc.{device_count}
use Rattle.vfm_parts.specs.Parts.{Dev, Lead, World, parts_in}
use Rattle.vfm_parts.specs.PartsOf.{world_of}
use Rattle.vfm_parts.specs.Start.{first_world}
use Rattle.vfm_parts.specs.Steps.{fault_on, after_on}
use Rattle.vfm_cells.specs.Cells.{Cell, lead_cell, device_cell, page_cell, cell_at}
use Rattle.vfm_cells.specs.Touched.{up_from, touched}

-- two lists have the same items, by a test of two items
abbrev pub same_list : {X : Type 0} → (X → X → Bool) → List X → List X → Bool
same_list same [] [] = true
same_list same [] (y ∷ ys) = false
same_list same (x ∷ xs) [] = false
same_list same (x ∷ xs) (y ∷ ys) = same x y && same_list same xs ys

abbrev pub same_numbers : List ℕ → List ℕ → Bool
same_numbers xs ys = same_list (λ x y. x == y) xs ys

abbrev pub same_bool : Bool → Bool → Bool
same_bool true b = b
same_bool false b = not b

abbrev pub same_hold : Option MigState → Option MigState → Bool
same_hold None None = true
same_hold None (Some b) = false
same_hold (Some a) None = false
same_hold (Some a) (Some b) = same_state a b

abbrev pub same_request : Outstanding → Outstanding → Bool
same_request r s = r.number == s.number && r.job == s.job && same_bool r.is_delivered s.is_delivered

abbrev pub same_plain : DeviceState → DeviceState → Bool
same_plain a b =
    same_numbers a.bar b.bar && same_list (λ p q. p.0 == q.0 && p.1 == q.1) a.pending b.pending && same_numbers a.buf b.buf
    && a.accepted == b.accepted && a.done == b.done && a.lost == b.lost

-- two parts are the same, field by field
abbrev pub same_dev : Dev → Dev → Bool
same_dev a b =
    same_plain a.plain b.plain && same_list same_request a.requests b.requests && same_state a.state b.state
    && same_hold a.hold b.hold && a.issues == b.issues && a.completes == b.completes && a.arcs == b.arcs
    && same_bool a.logging b.logging && same_bool a.released b.released && same_numbers a.marks b.marks
    && same_numbers a.unread b.unread && same_numbers a.dirty b.dirty

abbrev pub same_lead : Lead → Lead → Bool
same_lead a b =
    same_bool a.begun b.begun && same_bool a.joint b.joint && same_bool a.aborted b.aborted && same_bool a.resumed b.resumed
    && same_bool a.failed b.failed && a.passes == b.passes && same_bool a.last b.last && same_numbers a.set b.set
    && same_numbers a.left b.left && same_numbers a.gathered b.gathered && same_list same_bool a.reported b.reported
    && same_numbers a.parts b.parts

abbrev pub same_world : World → World → Bool
same_world a b = same_lead a.lead b.lead && same_list same_dev a.devs b.devs && same_list same_numbers a.pages b.pages

-- the parts are the facts here and at each place further on, and allow each entry
abbrev pub is_followed_from : Desc → List Entry → World → List Entry → Bool
is_followed_from D past w [] = same_world w (world_of D past)
is_followed_from D past w (entry ∷ entries) =
    same_world w (world_of D past) && is_none (fault_on D w entry) && is_followed_from D (entry ∷ past) (after_on D w entry) entries

-- the parts follow a journal, oldest entry first, from the described machine on
abbrev pub is_followed : Desc → List Entry → Bool
is_followed D journal = is_followed_from D [] (first_world D) journal

-- the same part lies in both
abbrev pub same_cell : Cell → Cell → Bool
same_cell (lead_cell a) (lead_cell b) = same_lead a b
same_cell (device_cell a) (device_cell b) = same_dev a b
same_cell (page_cell a) (page_cell b) = same_numbers a b
same_cell a b = false

-- the same parts lie in these cells of two worlds
abbrev pub same_in : Desc → World → World → List ℕ → Bool
same_in D a b cells = list_all (λ c. same_cell (cell_at D a c) (cell_at D b c)) cells

-- The same for a machine of large pages, each of which is looked at only after the entries that touch it: what an entry
-- makes of the facts before it are the facts after it, in the coordinator's cell, in each device's, and in those touched.
abbrev pub is_followed_by_cells_from : Desc → List Entry → List Entry → Bool
is_followed_by_cells_from D past [] = true
is_followed_by_cells_from D past (entry ∷ entries) =
    let w = world_of D past in
    is_none (fault_on D w entry)
    && same_in D (after_on D w entry) (world_of D (entry ∷ past)) (up_from 0 (device_count D + 1) ++ touched D (parts_in w) entry)
    && is_followed_by_cells_from D (entry ∷ past) entries

-- so many entries of a journal from a place on
abbrev pub is_followed_by_cells : Desc → List Entry → ℕ → ℕ → Bool
is_followed_by_cells D journal place count =
    is_followed_by_cells_from D (reverse (take place journal)) (take count (drop place journal))
