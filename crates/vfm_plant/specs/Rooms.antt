-- The room that a seat is given at the start, and cells that fit in their order.
use Rattle.std.specs.Prelude.{◌≡◌, ℕ, ◌+◌, ◌≤◌, List, [], ◌∷◌, vec_capacity}
use Rattle.vfm_types.specs.declared.desc.Desc.{Desc}
use Rattle.vfm_cells.specs.Cells.{Cell}
use Rattle.vfm_cells.specs.CellFits.{CellFits}
use Rattle.vfm_plant.specs.declared.rooms.Room.{Room}

-- the room of a seat, of a plant with so many devices and seats
pub record IsRoom (count people : ℕ) (room : Room) : Type 0 where
  pub made : (room.made.items ≡ []) × (64 ≤ vec_capacity room.made)
  pub hands : (room.hands.items ≡ []) × (count + 2 ≤ vec_capacity room.hands)
  pub devices : (room.devices.items ≡ []) × (count ≤ vec_capacity room.devices)
  pub tickets : (room.tickets.items ≡ []) × (people ≤ vec_capacity room.tickets)
  pub lists : (room.lists.items ≡ []) × (people ≤ vec_capacity room.lists)

-- what lies in the cells from this one on fits them
abbrev pub AreFittingFrom : Desc → ℕ → List Cell → Type 0
AreFittingFrom D c [] = Unit {0}
AreFittingFrom D c (x ∷ xs) = CellFits D c x × AreFittingFrom D (c + 1) xs
