-- What the channels of a source were given: each its share of all that is sent.
use Rattle.std.specs.Prelude.{◌≡◌, ℕ, ◌+◌, ◌<◌, ◌≤◌, ◌⊎◌, Bool, true, false, Option, None, Some, List, [], ◌∷◌, ◌++◌, length, map, slice_index_or, slice_set}
use Rattle.vfm_types.specs.declared.desc.Desc.{Desc}
use Rattle.vfm_outside.specs.Counts.{Rose}
use Rattle.vfm_outside.specs.Told.{with_appended}
use Rattle.vfm_packet.specs.Channel.{all_bytes}
use Rattle.vfm_packet.specs.Packet.{packet_bytes}
use Rattle.vfm_send.specs.declared.sender.Sender.{Sender}
use Rattle.vfm_send.specs.Sends.{given, link_of, has_failed, left, mark_of, SentPrefix}
use Rattle.vfm_streams.specs.Sent.{Sent, records_of}
use Rattle.vfm_streams.specs.Packets.{lane_packets}
use Rattle.vfm_outlets.specs.declared.outlets.Outlets.{Outlets}

-- the links of the channels, and which of them failed under their sender
abbrev pub links_of : {L : Type 0} → Outlets L → List L
links_of outlets = map link_of outlets.senders.items

abbrev pub all_failed : {L : Type 0} → Outlets L → List Bool
all_failed outlets = map has_failed outlets.senders.items

-- what was given to each channel so far: what its link says that it sent, and what waits
abbrev pub all_given : {L : Type 0} → (L → Option (List ℕ)) → Outlets L → List (Option (List ℕ))
all_given sent outlets = map (given sent) outlets.senders.items

-- the bytes of these packets for channel k
abbrev pub share_of : Desc → List Sent → ℕ → List ℕ
share_of D all k = all_bytes (lane_packets D k all)

-- the channels from number k on, each with its share after what it had sent at the start
abbrev pub with_shares : Desc → List Sent → ℕ → List (Option (List ℕ)) → List (Option (List ℕ))
with_shares D all k [] = []
with_shares D all k (start ∷ starts) = with_appended start (share_of D all k) ∷ with_shares D all (k + 1) starts

-- The channels of this description carry all of this, newest first, after what they had sent at the start, each of which its
-- link has sent a prefix; and how many records of each stream that is.
pub record Carries {L : Type 0} (sent : L → Option (List ℕ)) (D : Desc) (starts : List (Option (List ℕ))) (all : List Sent)
    (outlets : Outlets L) : Type 0 where
  pub channels : length outlets.senders.items ≡ D.channels
  pub version : outlets.version ≡ D.version
  pub session : outlets.session ≡ D.session
  pub given : all_given sent outlets ≡ with_shares D all 0 starts
  pub begun : (k : ℕ) (link : L) → k < D.channels
      → SentPrefix (slice_index_or starts k None) (sent (slice_index_or (links_of outlets) k link)) (share_of D all k)
  pub counts : (s : ℕ) → s ≤ 8 → slice_index_or outlets.counts s 0 ≡ length (records_of s all)

-- How a channel fares in a call that sends: its flag and its count of what failed to be sent, before and after. It fails only
-- where the count rose, in this call or before its flag was set, and a channel that has failed is silent.
pub record Fares (failed_before failed_now : Bool) (before now : ℕ) : Type 0 where
  pub never_falls : before ≤ now
  pub stays : failed_before ≡ true → failed_now ≡ true
  pub fails : failed_now ≡ true → (failed_before ≡ true) ⊎ Rose before now
  pub quiet : failed_now ≡ failed_before → now ≡ before

-- how a sender fared, by its flag and by the count of its link
abbrev pub SenderFares : {L : Type 0} → (L → ℕ) → Sender L → Sender L → Type 0
SenderFares failed_out was now = Fares (has_failed was) (has_failed now) (failed_out (link_of was)) (failed_out (link_of now))

-- how each channel fared
abbrev pub AllFare : {L : Type 0} → (L → ℕ) → Outlets L → Outlets L → Type 0
AllFare {L} failed_out before now =
    (k : ℕ) (link : L) → k < length before.senders.items
    → Fares (slice_index_or (all_failed before) k false) (slice_index_or (all_failed now) k false)
    (failed_out (slice_index_or (links_of before) k link)) (failed_out (slice_index_or (links_of now) k link))

-- What is answered of the first n channels: the least that has failed; where none has, nothing waits in them.
abbrev pub FirstFailed : {L : Type 0} → List (Sender L) → ℕ → Option ℕ → Type 0
FirstFailed {L} senders n None =
    (k : ℕ) (d : Sender L) → k < n → (has_failed (slice_index_or senders k d) ≡ false) × (left (slice_index_or senders k d) ≡ [])
FirstFailed {L} senders n (Some least) =
    (least < n) × ((d : Sender L) → has_failed (slice_index_or senders least d) ≡ true)
    × ((k : ℕ) (d : Sender L) → k < least → has_failed (slice_index_or senders k d) ≡ false)

-- the least channel that has failed, where it is known of those before channel k, and of channel k whether it has
abbrev pub sooner : Option ℕ → ℕ → Bool → Option ℕ
sooner (Some least) k failed = Some least
sooner None k true = Some k
sooner None k false = None

-- channel k alone was changed: it has failed as told, and where it hasn't, nothing waits in it
pub record OneSent {L : Type 0} (before : List (Sender L)) (k : ℕ) (now : List (Sender L)) (failed : Bool) : Type 0 where
  pub sender : Sender L
  pub place : now ≡ slice_set before k sender
  pub flag : failed ≡ has_failed sender
  pub all : failed ≡ false → left sender ≡ []

-- what became of a channel that was to be ended: whether it has failed, what its link had sent at some time before and what
-- was left to be sent then, what the link has sent now, and whether it is finished
pub record Ending : Type 0 where
  pub failed : Bool
  pub before : Option (List ℕ)
  pub left : List ℕ
  pub now : Option (List ℕ)
  pub finished : Bool

-- Where it hasn't failed, all that was left and the packet that ends it was sent, and its link is finished; else a prefix.
pub record Ends (abort : Bool) (session version : ℕ) (e : Ending) : Type 0 where
  pub whole : e.failed ≡ false
      → (e.now ≡ with_appended e.before (e.left ++ packet_bytes (mark_of abort session version))) × (e.finished ≡ true)
  pub begun : SentPrefix e.before e.now (e.left ++ packet_bytes (mark_of abort session version))

-- this holds of each of the first n channels, as it was and as it is now
abbrev pub EachChanged : {L : Type 0} → (Sender L → Sender L → Type 0) → List (Sender L) → List (Sender L) → ℕ → Type 0
EachChanged {L} Changed before now n =
    (k : ℕ) (d : Sender L) → k < n → Changed (slice_index_or before k d) (slice_index_or now k d)

-- channel k alone was changed, from what it was to one of which this holds
pub record OneChanged {L : Type 0} (Changed : Sender L → Sender L → Type 0) (before : List (Sender L)) (k : ℕ) (now : List (Sender L)) : Type 0 where
  pub sender : Sender L
  pub was : Sender L
  pub place : now ≡ slice_set before k sender
  pub there : (d : Sender L) → slice_index_or before k d ≡ was
  pub changed : Changed was sender
