-- The cells that a seat holds for the coordinator: its own, each device's, and where a page is copied, that page's.
use Rattle.std.specs.Prelude.{◌≡◌, ℕ, ◌+◌, ◌<◌, Bool, true, false, List, [], ◌∷◌, map}
use Rattle.vfm_types.specs.declared.desc.Desc.{Desc}
use Rattle.vfm_types.specs.declared.entry.Entry.{Entry}
use Rattle.vfm_types.specs.declared.entry.Entry.TheVariants.{Issue, Deliver, Complete, Abort}
use Rattle.vfm_parts.specs.Parts.{Dev, Lead, World, parts_in}
use Rattle.vfm_turn.specs.Order.{has}
use Rattle.vfm_turn.specs.Seen.{Hold}
use Rattle.vfm_cells.specs.Cells.{Cell, lead_cell, device_cell, cell_at, cell_count}
use Rattle.vfm_cells.specs.Touched.{touched}
use Rattle.vfm_cell_steps.specs.Made.{IsStepTo}
use Rattle.vfm_plant.specs.declared.hand.Hand.{Hand}
use Rattle.vfm_plant.specs.Hands.{AreAmong, AreParts, cells_held, held, rest_of}

abbrev pub hand_of : ℕ → Cell → Hand
hand_of cell part = record { cell = cell; part = part }

-- the hands on the cells of these devices, from this cell on
abbrev pub dev_hands : ℕ → List Dev → List Hand
dev_hands cell [] = []
dev_hands cell (dev ∷ devs) = hand_of cell (device_cell dev) ∷ dev_hands (cell + 1) devs

-- the hands on the coordinator's cell and on each device's
abbrev pub group_hands : Lead → List Dev → List Hand
group_hands lead devs = hand_of 0 (lead_cell lead) ∷ dev_hands 1 devs

-- what the board has of them before a step
abbrev pub group_holds : Lead → List Dev → List (Hold Cell)
group_holds lead devs = map rest_of (group_hands lead devs)

-- a seat makes the entry where the order wants it: it is the coordinator's, and isn't Abort
abbrev pub is_made_by_seats : Entry → Bool
is_made_by_seats (Issue d n) = false
is_made_by_seats (Deliver d n) = false
is_made_by_seats (Complete d n) = false
is_made_by_seats Abort = false
is_made_by_seats entry = true

-- A step of the coordinator from one world to another, by the cells that are held: what lay in them is that of the first
-- world, and what the hands have is that of the second.
pub record IsGroupTurn (D : Desc) (entry : Entry) (holds : List (Hold Cell)) (hands : List Hand) (w v : World) : Type 0 where
  pub holds_are : holds ≡ held (cell_at D w) (cell_at D w) (cells_held hands)
  pub parts : AreParts (cell_at D v) hands
  pub below : (c : ℕ) → has c (cells_held hands) ≡ true → c < cell_count D
  pub among : AreAmong (touched D (parts_in w) entry) (cells_held hands)
  pub step : IsStepTo D entry w v
