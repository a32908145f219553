-- What a sender was given, and what of it was sent.
use Rattle.std.specs.Prelude.{◌≡◌, ℕ, ◌≤◌, Bool, Option, List, [], length, take, drop, if◌then◌else◌}
use Rattle.vfm_packet.specs.declared.header.Kind.TheVariants.{End, Abort}
use Rattle.vfm_packet.specs.Packet.{Packet}
use Rattle.vfm_outside.specs.Told.{with_appended}
use Rattle.vfm_send.specs.declared.sender.Sender.{Sender}

-- the link of a sender
abbrev pub link_of : {L : Type 0} → Sender L → L
link_of sender = sender.link

-- whether the link has failed under this sender, which is silent from then on
abbrev pub has_failed : {L : Type 0} → Sender L → Bool
has_failed sender = sender.failed

-- the bytes that were put and wait to be sent
abbrev pub left : {L : Type 0} → Sender L → List ℕ
left sender = drop sender.at sender.outbox.items

-- all that was given to the link and to its sender so far, by what the link says that it sent
abbrev pub given : {L : Type 0} → (L → Option (List ℕ)) → Sender L → Option (List ℕ)
given sent sender = with_appended (sent sender.link) (left sender)

-- a prefix of these bytes was sent
pub record SentPrefix (before now : Option (List ℕ)) (bytes : List ℕ) : Type 0 where
  pub count : ℕ
  pub within : count ≤ length bytes
  pub sent : now ≡ with_appended before (take count bytes)

-- the packet that ends a channel of this session and version, or says that the sender gave up
abbrev pub mark_of : Bool → ℕ → ℕ → Packet
mark_of abort session version = record {
  head = record {
    version = version;
    kind = if abort then Abort else End;
    session = session;
    stream = 0;
    index = 0;
    length = 0;
  };
  payload = [];
}
