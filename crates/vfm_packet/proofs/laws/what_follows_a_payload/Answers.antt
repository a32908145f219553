-- The two versions of the format.
use Rattle.std.proofs.Common.{List, ◌++◌, ℕ, ap, ◌∙◌, arith}
use Rattle.std.proofs.lemmas.List.{append-nil}
use Rattle.vfm_packet.specs.Header.{head_bytes}
use Rattle.vfm_packet.specs.Packet.{seal_len}
use Rattle.vfm_packet.proofs.Packets.{no_seal, whole_seal, length-packet_bytes}
use Rattle.vfm_packet.proofs.laws.what_follows_a_payload.Goals as goal

pub returns-clause-plain : goal.returns-clause-plain
returns-clause-plain c p one =
    ap (λ (l : List ℕ). head_bytes p.head ++ p.payload ++ l) (no_seal p one) ∙ append-nil (head_bytes p.head ++ p.payload)

pub returns-clause-sealed : goal.returns-clause-sealed
returns-clause-sealed c p two = ap (λ (l : List ℕ). head_bytes p.head ++ p.payload ++ l) (whole_seal p two)

pub returns-clause-size : goal.returns-clause-size
returns-clause-size c p len = length-packet_bytes p len

pub returns-clause-plain_size : goal.returns-clause-plain_size
returns-clause-plain_size c h one = omega (arith, ap seal_len one)

pub returns-clause-sealed_size : goal.returns-clause-sealed_size
returns-clause-sealed_size c h two = omega (arith, ap seal_len two)
