-- What a loader says of the packets of its stream that were applied, in the order of their indexes.
use Rattle.std.specs.Prelude.{◌≡◌, ℕ, ◌≤◌, Bool, true, false, List, [], ◌∷◌, length, map, reverse, Option, Some, None, Result, Ok, Err}
use Rattle.std.specs.Option.{option_or, option_map}
use Rattle.vfm_types.specs.declared.desc.Desc.{Desc}
use Rattle.vfm_types.specs.Desc.{device_count}
use Rattle.vfm_types.specs.Valid.{IsValid}
use Rattle.vfm_packet.specs.Packet.{Packet}
use Rattle.vfm_plain.specs.declared.part.Part.{Part}
use Rattle.vfm_record.specs.Record.{Record}
use Rattle.vfm_record.specs.Shape.{shape_digest}
use Rattle.vfm_record.specs.Tests.{record_at}
use Rattle.vfm_streams.specs.Whole.{StreamFault, BadRecord, ConfigDiffers, NotWhole, is_config}
use Rattle.vfm_streams.specs.Judged.{bad_record, config_differs, digest_of, lacks}
use Rattle.vfm_load.specs.declared.faults.LoadFault.{LoadFault}
use Rattle.vfm_load.specs.declared.faults.LoadFault.TheVariants as faults
use Rattle.vfm_load.specs.declared.faults.Refused.{Refused}
use Rattle.vfm_load.specs.declared.loader.Loader.{Loader}
use Rattle.vfm_load.specs.Stores.{is_digest, FitsStore, HoldsStore}

-- the stream that it loads
abbrev pub stream_of : Loader → ℕ
stream_of loader = loader.stream

-- how many packets were applied, which is the index of the next
abbrev pub applied : Loader → ℕ
applied loader = loader.next

-- the last packet that was applied is a config packet
abbrev pub is_closed : Loader → Bool
is_closed loader = loader.closed

-- the first fault, if there was one
abbrev pub fault_in : Option Refused → Option StreamFault
fault_in None = None
fault_in (Some refused) = Some (BadRecord refused.index refused.place)

-- what packets in the order of their indexes say, newest first
abbrev pub records_of : ℕ → List Packet → List Record
records_of s packets = reverse (map (λ p. record_at s p.payload) packets)

-- the first fault of packets in the order of their indexes: that of a whole stream, where they are all of its packets
abbrev pub fault_in_order : Desc → ℕ → List Packet → Option StreamFault
fault_in_order D s packets =
    option_or (bad_record D s [] 0 packets)
    (option_or (config_differs D s (records_of s packets)) (option_map NotWhole (lacks D s (records_of s packets))))

-- a digest came last
abbrev pub ends_with_digest : List Record → Bool
ends_with_digest [] = false
ends_with_digest (r ∷ older) = is_digest r

-- the loader was made for this stream of this description, which is valid
pub record IsLoaderOf (loader : Loader) (D : Desc) (s : ℕ) : Type 0 where
  pub valid : IsValid D
  pub known : s ≤ device_count D
  pub stream : loader.stream ≡ s
  pub ours : loader.ours ≡ shape_digest D s
  pub fits : FitsStore D s loader.store

-- what the loader keeps is what these records say, newest first
pub record SaysRecords (loader : Loader) (D : Desc) (s : ℕ) (records : List Record) : Type 0 where
  pub stored : HoldsStore D s records loader.store
  pub digest : ends_with_digest records ≡ true → digest_of records ≡ loader.theirs

-- the loader stands after these packets of the stream were applied, in the order of their indexes, from 0 on
pub record IsAfter (loader : Loader) (D : Desc) (s : ℕ) (packets : List Packet) : Type 0 where
  pub loader_of : IsLoaderOf loader D s
  pub count : loader.next ≡ length packets
  pub bad : fault_in loader.refused ≡ bad_record D s [] 0 packets
  pub says : fault_in loader.refused ≡ None → SaysRecords loader D s (records_of s packets)
  pub last : fault_in loader.refused ≡ None → loader.closed ≡ ends_with_digest (records_of s packets)

-- a packet with this kind and payload
pub record IsPacket (p : Packet) (config : Bool) (payload : List ℕ) : Type 0 where
  pub config_is : is_config p.head.kind ≡ config
  pub payload_is : p.payload ≡ payload

-- the answer as what is wrong with a stream
abbrev pub fault_of : Result Part LoadFault → Option StreamFault
fault_of (Ok part) = None
fault_of (Err (faults.BadRecord index place)) = Some (BadRecord index place)
fault_of (Err (faults.ConfigDiffers ours theirs)) = Some ConfigDiffers
fault_of (Err (faults.NotWhole least)) = Some (NotWhole least)

-- the digests of a refusal are the own one and the one that came
abbrev pub HasDigests : Desc → ℕ → List Record → LoadFault → Type 0
HasDigests D s records (faults.BadRecord index place) = Unit {0}
HasDigests D s records (faults.ConfigDiffers ours theirs) = (ours ≡ shape_digest D s) × (theirs ≡ digest_of records)
HasDigests D s records (faults.NotWhole least) = Unit {0}
