-- What is to be added still is what the rest of the word has.
use Rattle.std.proofs.Common.{◌≡◌, ◌++◌, ◌*◌, drop}
use Rattle.vfm_report.specs.HexWord.{hex_value}
use Rattle.vfm_report.proofs.digits.append_hex.Given as goal

abbrev pub invariant-loop-i : goal.invariant-loop-i
invariant-loop-i l = l.fn.bytes.items ++ hex_value l.word ≡ l.bytes.items ++ hex_value (drop (2 * l.i) l.word)
