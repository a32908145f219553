-- A number of 64 bits that is small enough.
use Rattle.std.proofs.Common.{◌^◌, ◌∙◌, sym, arith}
use Rattle.vfm_report.proofs.Numerals.{number_below-smaller, number_below-wider, number_below-large}
use Rattle.vfm_top.proofs.words.number.Goals as goal

pub returns-in_err-number : goal.returns-in_err-number
returns-in_err-number c =
    let none = sym c.long_number.ensures ∙ c.in_err-number.was in
    c.from_residual.ensures ∙ sym (number_below-wider (2 ^ 32) (2 ^ 64) c.args.word.now none (omega arith) (omega arith))

pub returns-then-number-le4294967295 : goal.returns-then-number-le4294967295
returns-then-number-le4294967295 c =
    let some = sym c.long_number.ensures ∙ c.in_ok-number.was in
    sym (number_below-smaller (2 ^ 32) (2 ^ 64) c.args.word.now c.in_ok-number.number some (omega arith) (omega arith))

pub returns-else-number-le4294967295 : goal.returns-else-number-le4294967295
returns-else-number-le4294967295 c =
    let some = sym c.long_number.ensures ∙ c.in_ok-number.was in
    sym (number_below-large (2 ^ 32) (2 ^ 64) c.args.word.now c.in_ok-number.number some (omega arith) (omega arith))
