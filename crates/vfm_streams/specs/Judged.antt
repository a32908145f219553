-- Which records can stand in a stream, one behind another, and what is lacking at its end.
use Rattle.std.specs.Prelude.{◌≡◌, ℕ, zero, suc, ◌+◌, ◌*◌, ◌==◌, ◌&&◌, not, Bool, if◌then◌else◌, nat_lt, nat_le, nat_eq, List, [], ◌∷◌, length, map, reverse, Option, Some, None, is_none}
use Rattle.std.specs.Option.{option_or, option_map}
use Rattle.std.specs.Cmp.Lexicographic.{pointwise}
use Rattle.vfm_base.specs.Least.{least_below}
use Rattle.vfm_types.specs.declared.desc.Desc.{Desc}
use Rattle.vfm_types.specs.Desc.{shape_at, block_count}
use Rattle.vfm_packet.specs.declared.header.Kind.{Kind}
use Rattle.vfm_packet.specs.Packet.{Packet}
use Rattle.vfm_record.specs.Record.{Record, Page, Block, Engine, Pending, Config, shape_of_stream, IsRecordOf}
use Rattle.vfm_record.specs.Shape.{shape_digest}
use Rattle.vfm_record.specs.Tests.{record_fault, record_at}
use Rattle.vfm_streams.specs.Packets.{kind_of}
use Rattle.vfm_streams.specs.Whole.{StreamFault, BadRecord, ConfigDiffers, NotWhole, is_config, in_order, gap_of}
use Rattle.vfm_streams.specs.Loaded.{last_page, last_block, all_pairs, has_engine, engine_device, engine_pend}

-- a record can stand in a packet of this kind behind these: a digest in a config packet alone, blocks
-- before the counts, which come once, and pending requests after them
abbrev pub can_stand : Kind → List Record → Record → Bool
can_stand kind older (Page p bytes) = not (is_config kind)
can_stand kind older (Block b bytes) = not (is_config kind) && not (has_engine older)
can_stand kind older (Engine accepted done lost pend buf) = not (is_config kind) && not (has_engine older)
can_stand kind older (Pending pairs) = not (is_config kind) && has_engine older
can_stand kind older (Config digest) = is_config kind

-- one above the number of the last of these requests
abbrev pub number_after : ℕ → List (ℕ × ℕ) → ℕ
number_after low [] = low
number_after low (pair ∷ pairs) = number_after (pair.0 + 1) pairs

-- the place of the first pending request, counted from i on, that can't stand there: its number is below
-- `low` or wasn't accepted, or no such job is there
abbrev pub pairs_fault : ℕ → ℕ → ℕ → ℕ → List (ℕ × ℕ) → Option ℕ
pairs_fault accepted jobs low i [] = None
pairs_fault accepted jobs low i (pair ∷ pairs) =
    if not (nat_le low pair.0 && nat_lt pair.0 accepted) then Some (3 + 8 * i)
    else (if not (nat_lt pair.1 jobs) then Some (7 + 8 * i)
    else pairs_fault accepted jobs (pair.0 + 1) (i + 1) pairs)

-- the same of all of them, of which no more may come than the counts announce
abbrev pub pending_fault : Desc → ℕ → List Record → List (ℕ × ℕ) → Option ℕ
pending_fault D s older pairs =
    if nat_lt (engine_pend older) (length (all_pairs older) + length pairs) then Some 1
    else pairs_fault (engine_device older).accepted (length (shape_of_stream D s).jobs)
    (number_after 0 (all_pairs older)) 0 pairs

-- the place at which a record is refused that can stand where it does
abbrev pub inner_fault : Desc → ℕ → List Record → Record → Option ℕ
inner_fault D s older (Page p bytes) = None
inner_fault D s older (Block b bytes) = None
inner_fault D s older (Engine accepted done lost pend buf) = None
inner_fault D s older (Pending pairs) = pending_fault D s older pairs
inner_fault D s older (Config digest) = None

-- the place at which a record is refused behind these, if it is
abbrev pub stand_fault : Desc → ℕ → Kind → List Record → Record → Option ℕ
stand_fault D s kind older r = if can_stand kind older r then inner_fault D s older r else Some 0

-- each of these records, newest first, is one of the stream, and can stand behind the older ones
abbrev pub AllFit : Desc → ℕ → List Record → Type 0
AllFit D s [] = Unit {0}
AllFit D s (r ∷ older) = IsRecordOf D s r × (stand_fault D s (kind_of r) older r ≡ None) × AllFit D s older

-- the place at which a packet's payload is refused behind these records, if it is
abbrev pub payload_fault : Desc → ℕ → List Record → Packet → Option ℕ
payload_fault D s older p =
    option_or (record_fault D s p.payload) (stand_fault D s p.head.kind older (record_at s p.payload))

-- the first refused one of packets, counted from an index on, behind these records
abbrev pub bad_record : Desc → ℕ → List Record → ℕ → List Packet → Option StreamFault
bad_record D s older i [] = None
bad_record D s older i (p ∷ packets) =
    option_or (option_map (BadRecord i) (payload_fault D s older p))
    (bad_record D s (record_at s p.payload ∷ older) (i + 1) packets)

-- what a stream says, newest first
abbrev pub said : ℕ → List Packet → List Record
said s packets = reverse (map (λ p. record_at s p.payload) (in_order packets))

-- the digest with which a stream ends
abbrev pub digest_of : List Record → List ℕ
digest_of [] = []
digest_of (Config digest ∷ older) = digest
digest_of (r ∷ older) = []

-- it isn't that of the own shape
abbrev pub config_differs : Desc → ℕ → List Record → Option StreamFault
config_differs D s records =
    if pointwise nat_eq (digest_of records) (shape_digest D s) then None else Some ConfigDiffers

-- the counts came, and as many pending requests as they announce
abbrev pub engine_lacks : List Record → Option ℕ
engine_lacks records =
    if has_engine records && length (all_pairs records) == engine_pend records then None else Some 4294967295

-- the least page or block that never came, or else what else is lacking
abbrev pub lacks : Desc → ℕ → List Record → Option ℕ
lacks D zero records = least_below D.pages (λ p. is_none (last_page p records))
lacks D (suc d) records =
    option_or (least_below (block_count (shape_at D d)) (λ b. is_none (last_block b records)))
    (engine_lacks records)

-- the first fault of a whole stream
abbrev pub load_fault : Desc → ℕ → List Packet → Option StreamFault
load_fault D s packets =
    option_or (bad_record D s [] 0 (in_order packets))
    (option_or (config_differs D s (said s packets)) (option_map NotWhole (lacks D s (said s packets))))

-- the first fault of a stream
abbrev pub stream_fault : Desc → ℕ → List Packet → Option StreamFault
stream_fault D s packets = option_or (gap_of packets) (load_fault D s packets)
