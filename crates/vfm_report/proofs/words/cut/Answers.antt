-- What memchr finds is the first place of the byte.
use Rattle.std.proofs.Common.{◌≡◌, ℕ, ◌+◌, ◌-◌, List, ◌∷◌, ◌++◌, length, take, drop, ap, ◌∙◌, sym, arith}
use Rattle.std.proofs.lemmas.List.{take_all, length-drop}
use Rattle.vfm_report.proofs.Splits.{without_anywhere, without_before, around}
use Rattle.vfm_report.proofs.words.cut.Goals as goal

pub returns-in-Some : goal.returns-in-Some
returns-in-Some c =
    let b = c.args.byte in
    let xs = c.args.bytes.now in
    let i = c.in-Some.i in
    let found = c.in-Some.ensures in
    let rest = drop (i + 1) xs in
    let whole : take (length xs - (i + 1)) rest ≡ rest = take_all (length xs - (i + 1)) rest (omega (arith, length-drop (i + 1) xs)) in (
      without_before b xs i (λ k lt. found.0.before k (omega arith) lt),
      around b xs i found.0.high found.1 ∙ ap (λ (r : List ℕ). take i xs ++ b ∷ r) (sym whole),
    )

pub returns-in-None : goal.returns-in-None
returns-in-None c = without_anywhere c.args.byte c.args.bytes.now (λ k lt. c.in-None.ensures k (omega arith) lt)
