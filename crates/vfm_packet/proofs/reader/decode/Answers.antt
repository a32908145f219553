-- Each answer comes exactly where its clause says, since it is the one that the tests give.
use Rattle.std.proofs.Common.{ℕ, sym, ap, ◌∙◌, subst, arith}
use Rattle.vfm_packet.specs.declared.answer.Decoded.{Decoded}
use Rattle.vfm_packet.specs.declared.answer.Decoded.TheVariants.{Packet}
use Rattle.vfm_base.specs.Words.{IsBytes}
use Rattle.vfm_packet.proofs.Decoding.{Reads, reads, packet_reads, partial_reads, corrupt_reads, refused_reads, corrupt_when}
use Rattle.vfm_packet.proofs.reader.decode.Goals as goal

pub returns-clause-packet : goal.returns-clause-packet
returns-clause-packet c head used =
    let e = c.args.expect.now in
    let bytes = c.args.bytes.now in
    let fits : IsBytes bytes = λ i. omega (arith, c.type_inv.bytes i) in (
      λ is. subst (λ (d : Decoded). Reads e bytes d) (sym c.answer.ensures ∙ is) (reads e bytes fits),
      λ there. c.answer.ensures ∙ packet_reads e bytes head there.0 ∙ ap (λ (n : ℕ). Packet head n) (sym there.1),
    )

pub returns-clause-more : goal.returns-clause-more
returns-clause-more c =
    let e = c.args.expect.now in
    let bytes = c.args.bytes.now in
    let fits : IsBytes bytes = λ i. omega (arith, c.type_inv.bytes i) in (
      λ is. subst (λ (d : Decoded). Reads e bytes d) (sym c.answer.ensures ∙ is) (reads e bytes fits),
      λ there. c.answer.ensures ∙ partial_reads e bytes there,
    )

pub returns-clause-bad : goal.returns-clause-bad
returns-clause-bad c cause =
    let e = c.args.expect.now in
    let bytes = c.args.bytes.now in
    let fits : IsBytes bytes = λ i. omega (arith, c.type_inv.bytes i) in (
      λ is. subst (λ (d : Decoded). Reads e bytes d) (sym c.answer.ensures ∙ is) (reads e bytes fits),
      λ there. c.answer.ensures ∙ refused_reads e bytes cause there,
    )

pub returns-clause-corrupt : goal.returns-clause-corrupt
returns-clause-corrupt c =
    let e = c.args.expect.now in
    let bytes = c.args.bytes.now in
    let fits : IsBytes bytes = λ i. omega (arith, c.type_inv.bytes i) in (
      λ is. corrupt_when e bytes (subst (λ (d : Decoded). Reads e bytes d) (sym c.answer.ensures ∙ is) (reads e bytes fits)),
      λ there. c.answer.ensures ∙ corrupt_reads e bytes there,
    )
