-- What a source sends, newest first: a page at each Copy, a block at each Block, and once the last pass has
-- ended the records that close each stream. Stream 0 is memory, stream `d + 1` is device `d`.
use Rattle.std.specs.Prelude.{◌≡◌, ℕ, zero, suc, ◌==◌, ◌&&◌, if◌then◌else◌, List, [], ◌∷◌, length, map, take, drop}
use Rattle.vfm_types.specs.declared.entry.Entry.{Entry}
use Rattle.vfm_types.specs.declared.entry.Entry.TheVariants.{Copy as CopyOf, Block as BlockOf}
use Rattle.vfm_types.specs.declared.desc.Desc.{Desc}
use Rattle.vfm_types.specs.Desc.{device_count}
use Rattle.vfm_types.specs.Machine.{DeviceState, Machine, device_of}
use Rattle.vfm_types.specs.Deliveries.{machine_of, page_bytes, block_bytes, joint_machine}
use Rattle.vfm_types.specs.Phases.{is_last_begun}
use Rattle.vfm_types.specs.Blocks.{is_no_pass_open}
use Rattle.vfm_record.specs.Record.{Record, Page, Block, Engine, Pending, Config}
use Rattle.vfm_record.specs.Shape.{shape_digest}

-- a record that is sent: its stream, how many of its stream were sent before it, and what it says
pub record Sent : Type 0 where
  pub stream : ℕ
  pub index : ℕ
  pub says : Record

-- the records of a stream among what was sent
abbrev pub records_of : ℕ → List Sent → List Record
records_of s [] = []
records_of s (x ∷ sent) = if x.stream == s then x.says ∷ records_of s sent else records_of s sent

-- one record more in a stream
abbrev pub push : ℕ → Record → List Sent → List Sent
push s r sent = record { stream = s; index = length (records_of s sent); says = r } ∷ sent

-- each has as its index the number of those of its stream that were sent before it
abbrev pub IsNumbered : List Sent → Type 0
IsNumbered [] = Unit {0}
IsNumbered (x ∷ sent) = (x.index ≡ length (records_of x.stream sent)) × IsNumbered sent

-- several, in order
abbrev pub push_all : ℕ → List Record → List Sent → List Sent
push_all s [] sent = sent
push_all s (r ∷ records) sent = push_all s records (push s r sent)

-- what the passes sent, with the bytes as they stood at each entry
abbrev pub sent_in_passes : Desc → List Entry → List Sent
sent_in_passes D [] = []
sent_in_passes D (CopyOf p ∷ past) =
    push 0 (Page p (page_bytes (machine_of D past) p)) (sent_in_passes D past)
sent_in_passes D (BlockOf d b ∷ past) =
    push (suc d) (Block b (block_bytes (machine_of D past) d b)) (sent_in_passes D past)
sent_in_passes D (entry ∷ past) = sent_in_passes D past

-- a list cut into at most so many pieces of this size, of which the last may be shorter
abbrev pub chunks : {X : Type 0} → ℕ → ℕ → List X → List (List X)
chunks zero size xs = []
chunks (suc most) size [] = []
chunks (suc most) size (x ∷ xs) = take size (x ∷ xs) ∷ chunks most size (drop size (x ∷ xs))

-- how many pending requests one record has at the most
unfoldable pub pairs_of_a_record : ℕ
pairs_of_a_record = 4096

-- the pending requests of a device as records; none has none
abbrev pub pending_records : List (ℕ × ℕ) → List Record
pending_records pending = map Pending (chunks (length pending) pairs_of_a_record pending)

-- the counts and the buffer of a device as a record
abbrev pub engine_record : DeviceState → Record
engine_record device = Engine device.accepted device.done device.lost (length device.pending) device.buf

-- the stream of device d closed: its counts, its pending requests, and the digest of its shape
abbrev pub with_device_closed : Desc → ℕ → DeviceState → List Sent → List Sent
with_device_closed D d device sent =
    push (suc d) (Config (shape_digest D (suc d)))
    (push_all (suc d) (pending_records device.pending) (push (suc d) (engine_record device) sent))

-- the streams of the first so many devices closed, in rising order
abbrev pub with_devices_closed : Desc → Machine → ℕ → List Sent → List Sent
with_devices_closed D m zero sent = sent
with_devices_closed D m (suc d) sent = with_device_closed D d (device_of m d) (with_devices_closed D m d sent)

-- every stream closed, memory's first
abbrev pub with_all_closed : Desc → Machine → List Sent → List Sent
with_all_closed D m sent = with_devices_closed D m (device_count D) (push 0 (Config (shape_digest D 0)) sent)

-- all that is sent: the closing records are those of the machine at the joint stop
abbrev pub sent : Desc → List Entry → List Sent
sent D past =
    if is_last_begun past && is_no_pass_open D past
    then with_all_closed D (joint_machine D past) (sent_in_passes D past)
    else sent_in_passes D past
