-- A text is parsed, and is that of the number.
use Rattle.std.proofs.Common.{◌∙◌, ap, sym, arith}
use Rattle.vfm_report.specs.Numbers.{long_number}
use Rattle.vfm_report.proofs.Numerals.{parsed-same, parsed-other, not_parsed, not_text}
use Rattle.vfm_top.proofs.words.long_number.Goals as goal

pub returns-in-Err : goal.returns-in-Err
returns-in-Err c = not_text c.args.word.now c.in-Err.ensures.cases.0

pub returns-in-Err-parse : goal.returns-in-Err-parse
returns-in-Err-parse c =
    not_parsed c.in-Ok.text.now c.parse.result c.in-Err-parse.field-0 c.in-Err-parse.is c.parse.ensures.value.0
    ∙ ap long_number c.in-Ok.ensures.cases.0

pub returns-then-eq : goal.returns-then-eq
returns-then-eq c =
    parsed-same c.args.word.now c.as_bytes.result.now c.in-Ok-parse.number (omega arith) (c.as_bytes.ensures.value ∙ c.format.ensures.text)
    (sym c.if-eq.ensures)

pub returns-else-eq : goal.returns-else-eq
returns-else-eq c =
    let text = c.as_bytes.ensures.value ∙ c.format.ensures.text in
    let same = c.in-Ok.ensures.cases.0 in
    parsed-other c.in-Ok.text.now c.as_bytes.result.now c.in-Ok-parse.number c.parse.result (omega arith) c.in-Ok-parse.is c.parse.ensures.value.0 text
    (rw same (sym c.if-eq.ensures)) ∙ ap long_number same
