-- A seat of a plant, between its calls.
use Rattle.std.specs.Prelude.{◌≡◌, ℕ, ◌+◌, ◌<◌, ◌≤◌, List, [], ◌∷◌, map, reverse, length, vec_capacity}
use Rattle.vfm_types.specs.declared.desc.Desc.{Desc}
use Rattle.vfm_types.specs.Desc.{device_count}
use Rattle.vfm_turn.specs.declared.seen.Drawn.{Drawn}
use Rattle.vfm_turn.specs.declared.seen.Past.{Past}
use Rattle.vfm_turn.specs.Words.{IsTicketOf, holds_of, number_of, past_told, records_of, seats_of}
use Rattle.vfm_cells.specs.Cells.{Cell}
use Rattle.vfm_cells.specs.WholeRun.{AreSteps}
use Rattle.vfm_plant.specs.declared.plant.Plant.{Plant}
use Rattle.vfm_plant.specs.declared.seat.Made.{Made}
use Rattle.vfm_plant.specs.declared.seat.PlantSeat.{PlantSeat}
use Rattle.vfm_plant.specs.declared.stepped.Wish.{Wish}
use Rattle.vfm_plant.specs.declared.stepped.Wish.TheVariants.{Device, Coordinator}
use Rattle.vfm_plant.specs.declared.stepped.Stepped.{Stepped}
use Rattle.vfm_plant.specs.declared.stepped.Stepped.TheVariants as stepped
use Rattle.vfm_plant.specs.Started.{base_of}

-- an entry and its place in the journal, by its record, where the journal of the start had so many entries
abbrev pub made_of : ℕ → Drawn Cell → Made
made_of base r = record { place = base + r.stamp; entry = r.entry }

-- how many entries the seat made
abbrev pub count_of : PlantSeat → ℕ
count_of seat = length seat.made.items

-- the seat's number, counted from 0, and what it drew and noted, newest first
abbrev pub seat_number : PlantSeat → ℕ
seat_number seat = number_of seat.ticket

abbrev pub told_of : PlantSeat → Past Cell
told_of seat = past_told seat.ticket

-- a wish that can be made by this description
abbrev pub IsWishOf : Desc → Wish → Type 0
IsWishOf D (Device d pick) = d < device_count D
IsWishOf D (Coordinator abort_after) = Unit {0}

-- A seat of the plant, which holds no cell. Each of its records is a step by the plant's description on the cells that it
-- touches, and it keeps the entries with their places, oldest first; it has its room.
pub record IsSeatOf (plant : Plant) (seat : PlantSeat) : Type 0 where
  pub ticket : IsTicketOf plant.board seat.ticket
  pub rest : holds_of seat.ticket ≡ []
  pub steps : AreSteps plant.desc (records_of seat.ticket)
  pub made : map (made_of (base_of plant)) (records_of seat.ticket) ≡ reverse seat.made.items
  pub few : length seat.made.items ≤ 64
  pub room : 64 ≤ vec_capacity seat.made
  pub hands : (seat.hands.items ≡ []) × (device_count plant.desc + 2 ≤ vec_capacity seat.hands)
  pub devices : (seat.devices.items ≡ []) × (device_count plant.desc ≤ vec_capacity seat.devices)
  pub tickets : (seat.tickets.items ≡ []) × (seats_of plant.board ≤ vec_capacity seat.tickets)
  pub lists : (seat.lists.items ≡ []) × (seats_of plant.board ≤ vec_capacity seat.lists)

-- what is kept of an answer
abbrev pub kept_of : Stepped → List Made
kept_of (stepped.Did place entry) = record { place = place; entry = entry } ∷ []
kept_of (stepped.Nothing at seen) = []
kept_of (stepped.Busy cell holder) = []
