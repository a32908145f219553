use Rattle.std.proofs.Common.{ap, sym, ◌∙◌}
use Rattle.hex.specs.Hex.{decode_of}
use Rattle.vfm_desc.proofs.HexText.{hex_kept}
use Rattle.vfm_desc.proofs.reading.bytes_of_hex.Goals as goal

pub returns-in-Ok-clause-value : goal.returns-in-Ok-clause-value
returns-in-Ok-clause-value c =
    let decoded = ap decode_of (sym c.as_bytes.ensures.value) ∙ c.in-Ok.ensures.ok in
    hex_kept c.args.digits.now c.in-Ok.bytes.items c.deref.result.now _ c.of.result c.ok_or.result c.if-digits-lt2.false c.if-digits-gt128.false decoded c.deref.ensures.value c.of.ensures.known.1 c.of.ensures.value c.ok_or.ensures.value
