-- The first piece is the next word.
use Rattle.std.proofs.Common.{ap, ◌∙◌}
use Rattle.vfm_report.specs.Split.{split}
use Rattle.vfm_report.specs.WordList.{left_pieces}
use Rattle.vfm_report.proofs.Splits.{split-whole, split-first}
use Rattle.vfm_report.proofs.words.Words.next.Goals as goal

pub returns-in-Some : goal.returns-in-Some
returns-in-Some c =
    let b = c.args.self.now.between in
    ap (left_pieces b) c.in_ok-rest.was ∙ ap (split b) c.in-Some.ensures.1
    ∙ split-first b c.in-Some.word.now c.in-Some.after.now c.in-Some.ensures.0

pub returns-in-None : goal.returns-in-None
returns-in-None c =
    let b = c.args.self.now.between in
    ap (left_pieces b) c.in_ok-rest.was ∙ split-whole b c.in_ok-rest.rest.now c.in-None.ensures
