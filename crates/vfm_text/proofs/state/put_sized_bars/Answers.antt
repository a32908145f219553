-- One BAR, or several.
use Rattle.std.proofs.Common.{List, ℕ, ap, sym, subst}
use Rattle.vfm_plain.specs.StateText.{bar_line}
use Rattle.vfm_text.specs.Writers.{Writes}
use Rattle.vfm_text.proofs.Pieces.{one_bar, several_bars}
use Rattle.vfm_text.proofs.state.put_sized_bars.Goals as goal

pub returns-then-sizes-eq1 : goal.returns-then-sizes-eq1
returns-then-sizes-eq1 g c =
    let same = ap (λ (d : ℕ). bar_line d c.args.bytes.now) c.d.view_is in
    let P : List ℕ → Type 0 = λ text. Writes g.P.TextWriter.takes g.P.TextWriter.stops c.args.writer.now c.put_hex_line.new.writer text c.put_hex_line.result in
    subst P (sym (one_bar c.args.d c.args.sizes.now c.args.bytes.now c.if-sizes-eq1.true)) (subst P same (rw c.from.ensures at c.put_hex_line.ensures))

pub returns-else-sizes-eq1 : goal.returns-else-sizes-eq1
returns-else-sizes-eq1 g c =
    let P : List ℕ → Type 0 = λ text. Writes g.P.TextWriter.takes g.P.TextWriter.stops c.args.writer.now c.put_pieces.new.writer text c.put_pieces.result in
    subst P (sym (several_bars c.args.d c.args.sizes.now c.args.bytes.now c.if-sizes-eq1.false)) c.put_pieces.ensures
