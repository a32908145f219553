-- A word and a number as one word.
use Rattle.std.proofs.Common.{◌≡◌, List, ℕ, ◌++◌, ap, refl, ◌∙◌, subst, decimal}
use Rattle.std.specs.Prelude.{codes}
use Rattle.vfm_text.specs.Writers.{Writes}
use Rattle.vfm_text.proofs.Pieces.{numbered_line}
use Rattle.vfm_text.proofs.state.put_bar.Goals as goal

pub returns : goal.returns
returns g c =
    let digits : c.as_bytes.result.now ≡ decimal c.args.d = c.as_bytes.ensures.value ∙ c.format.ensures.text ∙ ap decimal c.d.view_is in
    let word : c.as_slice.result.now ≡ codes "bar " ++ decimal c.args.d =
    c.as_slice.ensures ∙ c.add-2.ensures ∙ (rw (c.add.ensures, c.new-word.ensures, digits) refl) in
    let P : List ℕ → Type 0 = λ text. Writes g.P.TextWriter.takes g.P.TextWriter.stops c.args.writer.now c.put_hex_line.new.writer text c.put_hex_line.result in
    subst P (numbered_line c.as_slice.result.now c.args.d c.args.k c.args.bytes.now word) c.put_hex_line.ensures
