-- What a reorder buffer says of the packets of a stream that were put into it.
use Rattle.std.specs.Prelude.{◌≡◌, ℕ, suc, ◌==◌, ◌&&◌, ◌||◌, not, if◌then◌else◌, Bool, nat_lt, List, Option, Some, None, IfSome, is_some, Result, Ok, Err}
use Rattle.std.specs.Ordering.{nat_cmp}
use Rattle.std.specs.BTreeMap.{get}
use Rattle.vfm_packet.specs.Packet.{Packet}
use Rattle.vfm_streams.specs.Whole.{StreamFault, Past, NoConfig, Missing, times, packet_with, is_config, has_config_at}
use Rattle.vfm_reorder.specs.declared.held.Held.{Held}
use Rattle.vfm_reorder.specs.declared.buffer.ReorderBuf.{ReorderBuf}
use Rattle.vfm_reorder.specs.declared.faults.Gap.{Gap}
use Rattle.vfm_reorder.specs.declared.faults.Gap.TheVariants as gaps
use Rattle.vfm_reorder.specs.Waiting.{is_config_held}

-- how many packets were given, which is the index of the next
abbrev pub given : ReorderBuf → ℕ
given buffer = buffer.next

-- what waits at an index
abbrev pub waiting : ReorderBuf → ℕ → Option Held
waiting buffer i = get nat_cmp buffer.held i

-- a packet with this index was put
abbrev pub is_put : ReorderBuf → ℕ → Bool
is_put buffer i = nat_lt i buffer.next || is_some (waiting buffer i)

-- a config packet with this index was put: only the last one that was given may be one
abbrev pub is_config_put : ReorderBuf → ℕ → Bool
is_config_put buffer i = if nat_lt i buffer.next then buffer.closed && suc i == buffer.next else is_config_held (waiting buffer i)

-- a config packet was given, and so nothing else will be
abbrev pub is_closed : ReorderBuf → Bool
is_closed buffer = buffer.closed

-- a packet can be given
abbrev pub is_ready : ReorderBuf → Bool
is_ready buffer = not buffer.closed && is_some (waiting buffer buffer.next)

-- among the packets this one has the index, and what is held of it is its own
pub record IsHeld (packets : List Packet) (i : ℕ) (held : Held) : Type 0 where
  pub packet : Packet
  pub found : packet_with i packets ≡ Some packet
  pub config : is_config packet.head.kind ≡ held.config
  pub payload : packet.payload ≡ held.payload

-- the buffer stands after these packets were put, no two of them with one index, in whatever order
pub record IsAfter (buffer : ReorderBuf) (packets : List Packet) : Type 0 where
  pub once : (i : ℕ) → times i packets ≡ (if is_put buffer i then 1 else 0)
  pub configs : (i : ℕ) → has_config_at i packets ≡ is_config_put buffer i
  pub holds : (i : ℕ) → IfSome (waiting buffer i) (IsHeld packets i)

-- a packet with this index, kind and payload
pub record IsPacket (p : Packet) (index : ℕ) (config : Bool) (payload : List ℕ) : Type 0 where
  pub index_is : p.head.index ≡ index
  pub config_is : is_config p.head.kind ≡ config
  pub payload_is : p.payload ≡ payload

-- the answer as what is wrong with a stream
abbrev pub fault_of : Result ℕ Gap → Option StreamFault
fault_of (Ok n) = None
fault_of (Err (gaps.Past index)) = Some (Past index)
fault_of (Err gaps.NoConfig) = Some NoConfig
fault_of (Err (gaps.Missing index)) = Some (Missing index)
