use Rattle.std.proofs.Common.{◌∙◌, subst, ℕ, List}
use Rattle.vfm_packet.specs.Answer.{BeginsWith}
use Rattle.vfm_recv.proofs.intake.Intake.judge.Goals as goal

pub hand_on-requires-clause-packet : goal.hand_on-requires-clause-packet
hand_on-requires-clause-packet c =
    subst (λ (l : List ℕ). BeginsWith c.args.self.now.expect l c.in-Packet.head) c.deref.ensures.value
    ((c.decode.ensures.packet c.in-Packet.head c.in-Packet.used).0 c.in-Packet.is).0

pub hand_on-requires-clause-exact : goal.hand_on-requires-clause-exact
hand_on-requires-clause-exact c =
    c.requires.exact c.in-Packet.head
    (subst (λ (l : List ℕ). BeginsWith c.args.self.now.expect l c.in-Packet.head) c.deref.ensures.value
    ((c.decode.ensures.packet c.in-Packet.head c.in-Packet.used).0 c.in-Packet.is).0)

pub end-requires : goal.end-requires
end-requires c =
    let found = (c.decode.ensures.packet c.in-Packet.head c.in-Packet.used).0 c.in-Packet.is in
    found.1 ∙ c.requires.exact c.in-Packet.head (subst (λ (l : List ℕ). BeginsWith c.args.self.now.expect l c.in-Packet.head) c.deref.ensures.value found.0)
