-- What a channel has sent at the end of a move, in the words of the journal.
use Rattle.std.proofs.Common.{◌≡◌, refl, ℕ, false, List, ◌++◌}
use Rattle.vfm_types.specs.declared.desc.Desc.{Desc}
use Rattle.vfm_types.specs.declared.entry.Entry.{Entry}
use Rattle.vfm_packet.specs.Packet.{packet_bytes}
use Rattle.vfm_send.specs.Sends.{mark_of}
use Rattle.vfm_streams.specs.Sent.{sent}
use Rattle.vfm_streams.specs.Packets.{share, ended_share}
use Rattle.vfm_outlets.specs.Carrying.{share_of}

-- the share of all that a journal sends
pub share_is : (D : Desc) (past : List Entry) (k : ℕ) → share_of D (sent D past) k ≡ share D past k
share_is D past k = refl

-- and with the packet that ends the channel
pub ended_share_is : (D : Desc) (past : List Entry) (k : ℕ)
    → share_of D (sent D past) k ++ packet_bytes (mark_of false D.session D.version) ≡ ended_share D past k
ended_share_is D past k = refl
