-- Where a move comes to its end: no fault, no failing arc, no abort that is due, and links that carry what is sent.
use Rattle.std.specs.Prelude.{◌≡◌, ◌⊎◌, ℕ, ◌<◌, if◌then◌else◌, true, All, List, [], ◌∷◌, ◌++◌, drop, length}
use Rattle.std.specs.List.{flat_map}
use Rattle.std.specs.List.Sorted.{IsPermutation}
use Rattle.vfm_types.specs.declared.desc.Desc.{Desc}
use Rattle.vfm_types.specs.declared.desc.DevShape.{DevShape}
use Rattle.vfm_types.specs.Phases.{pass_count}
use Rattle.vfm_types.specs.State.{has_p2p}
use Rattle.vfm_plain.specs.Report.{Made, source_past}
use Rattle.vfm_packet.specs.Channel.{all_bytes, IsSoundChannel}
use Rattle.vfm_packet.specs.Packet.{Packet, packet_bytes}
use Rattle.vfm_packet.specs.Reading.{reading}
use Rattle.vfm_record.specs.Packing.{end_of}
use Rattle.vfm_status.specs.declared.status.Status.TheVariants.{Moved, NoMemory}
use Rattle.vfm_move.specs.Contact.{Line, Lines, AreTold}
use Rattle.vfm_move.specs.Carried.{IsFront, expected}
use Rattle.vfm_move.specs.Causes.{Attempt, Story, NoneFailed}

-- ---- the description

-- how many arcs a device takes to STOP_COPY: one more where it has the peer-to-peer states
abbrev pub arcs_to_stop : DevShape → ℕ
arcs_to_stop shape = if has_p2p shape.flags then 3 else 2

-- no arc of the device fails on its way there
abbrev pub NeverFails : DevShape → Type 0
NeverFails shape = (shape.fails ≡ 0) ⊎ (arcs_to_stop shape < shape.fails)

-- the source isn't to give up, or after a pass that the run doesn't have
abbrev pub IsToMove : Attempt → Made → Type 0
IsToMove attempt made = (attempt.abort_after ≡ 0) ⊎ (pass_count (source_past made) < attempt.abort_after)

-- ---- the channels

-- the whole packets at the start of some bytes, up to the one that ends the channel
abbrev pub packets_in : Desc → List ℕ → List Packet
packets_in D bytes = (reading (expected D) bytes).packets

-- what stands behind them
abbrev pub piece_in : Desc → List ℕ → List ℕ
piece_in D bytes = drop (length (all_bytes (packets_in D bytes))) bytes

-- the packet that ends a channel
abbrev pub end_packet : Desc → Packet
end_packet D = end_of D.version D.session

-- all packets that the source's channels have sent, and all that the destination's have received
abbrev pub packets_sent : Desc → Lines → List Packet
packets_sent D lines = flat_map (λ line. packets_in D line.sent) lines.source

abbrev pub packets_received : Desc → Lines → List Packet
packets_received D lines = flat_map (λ line. packets_in D line.received) lines.dest

-- the bytes are a front of a sound channel
pub record BeginsSoundly (D : Desc) (bytes : List ℕ) : Type 0 where
  pub whole : List ℕ
  pub packets : List Packet
  pub sound : IsSoundChannel (expected D) whole packets
  pub front : IsFront bytes whole

-- the bytes are the front of one of these packets
abbrev pub IsPieceOf : List Packet → List ℕ → Type 0
IsPieceOf [] bytes = ⊥
IsPieceOf (p ∷ packets) bytes = IsFront bytes (packet_bytes p) ⊎ IsPieceOf packets bytes

-- the packet that ends the channel was received
abbrev pub HasEnd : Desc → Line → Type 0
HasEnd D line = piece_in D line.received ≡ packet_bytes (end_packet D)

-- a control link received a front of what the other one sent, and didn't end before all of it
pub record Delivers (sender receiver : Line) : Type 0 where
  pub front : IsFront receiver.received sender.sent
  pub all : receiver.ended ≡ true → receiver.received ≡ sender.sent

-- The links carry what is sent, as far as it was read.
pub record CarryAll (D : Desc) (lines : Lines) : Type 0 where
  -- each channel received a front of a sound one
  pub sound : All (λ line. BeginsSoundly D line.received) lines.dest
  -- the packets received are among those sent, each at most once, in any order and on any channel
  pub missing : List Packet
  pub among : IsPermutation (packets_received D lines ++ missing) (packets_sent D lines)
  -- a packet that was received in part is part of one that was sent, or of the one that ends a channel
  pub pieces : All (λ line. IsPieceOf (end_packet D ∷ packets_sent D lines) (piece_in D line.received)) lines.dest
  -- no channel ended before the packet that ends it was received
  pub ends : All (λ line. line.ended ≡ true → HasEnd D line) lines.dest
  -- the channels didn't all end before every packet that was sent was received
  pub all : All (λ line. line.ended ≡ true) lines.dest → missing ≡ []
  -- each control link brings what the other end's sent
  pub answer : Delivers lines.dest_control lines.source_control
  pub go : Delivers lines.source_control lines.dest_control

-- the links tell that they carry all
pub record IsUndisturbed (made : Made) (story : Story) : Type 0 where
  pub told : AreTold story.contact
  pub carry : CarryAll made.desc told.lines

-- Where nothing failed, no arc fails, no abort is due and the links carry what is sent, the machine is moved, or memory was
-- wanting.
abbrev pub IsComplete : Attempt → Made → Story → Type 0
IsComplete attempt made story =
    IsToMove attempt made → All NeverFails made.desc.devices → NoneFailed story.contact → IsUndisturbed made story
    → (story.status ≡ Moved) ⊎ (story.status ≡ NoMemory)
