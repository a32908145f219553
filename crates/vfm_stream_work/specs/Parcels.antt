-- Parcels as packets.
use Rattle.std.specs.Prelude.{ℕ, List, [], ◌∷◌, map}
use Rattle.vfm_packet.specs.Packet.{Packet}
use Rattle.vfm_mesh.specs.declared.parcel.Parcel.{Parcel}
use Rattle.vfm_mesh.specs.declared.parcel.Parcel.TheVariants as parcels

-- the packets among parcels, in order; a mark is none
abbrev pub packets_in : List Parcel → List Packet
packets_in [] = []
packets_in (parcels.Close ∷ rest) = packets_in rest
packets_in (parcels.Packet head payload ∷ rest) = record { head = head; payload = payload } ∷ packets_in rest

-- packets without the numbers of their channels
abbrev pub untagged : List (ℕ × Packet) → List Packet
untagged tagged = map (λ x. x.1) tagged
