-- Two digits more are a byte more.
use Rattle.std.proofs.Common.{◌≡◌, ℕ, ◌+◌, ◌*◌, ◌<◌, List, [], ◌∷◌, ◌++◌, length, drop, get_or, ap, sym, ◌∙◌, refl, append_assoc, arith}
use Rattle.std.proofs.lemmas.List.{drop_all}
use Rattle.vfm_report.specs.HexWord.{low_digit, hex_value}
use Rattle.vfm_report.proofs.HexWords.{hex_value-more, is_hex-length, hex_value-nil}
use Rattle.vfm_report.proofs.digits.append_hex.Goals as goal

pub loop-i-preserved : goal.loop-i-preserved
loop-i-preserved c =
    let word = c.args.word.now in
    let i = c.loop-i.i in
    let old = c.loop-i.bytes.items in
    let rest = hex_value (drop (2 * (i + 1)) word) in
    let byte = c.low_digit-high.result * 16 + c.low_digit-low.result in
    let more : 2 * i + 1 < length word = omega (arith, is_hex-length c.args.size word c.requires, c.loop-i-test.true) in
    let same : low_digit (get_or word (2 * i) 0) * 16 + low_digit (get_or word (2 * i + 1) 0) ≡ byte = rw (c.low_digit-high.ensures.value, c.low_digit-low.ensures.value) refl in
    c.loop-i.invariant ∙ ap (λ (r : List ℕ). old ++ r) (hex_value-more word i more ∙ ap (λ (b : ℕ). b ∷ rest) same)
    ∙ sym (append_assoc old (byte ∷ []) rest) ∙ ap (λ (r : List ℕ). r ++ rest) (sym c.in_ok-push.ensures.items)

pub returns : goal.returns
returns c =
    let word = c.args.word.now in
    let i = c.loop-i.i in
    let old = c.loop-i.bytes.items in
    let none : drop (2 * i) word ≡ [] = drop_all (2 * i) word (omega (arith, is_hex-length c.args.size word c.requires, c.loop-i-test.false)) in
    sym (c.loop-i.invariant ∙ ap (λ (r : List ℕ). old ++ hex_value r) none ∙ hex_value-nil old)
