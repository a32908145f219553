-- Three bytes are fewer than 44.
use Rattle.std.proofs.Common.{◌≡◌, ℕ, ◌<◌, List, [], length, arith, subst}
use Rattle.std.proofs.lemmas.Bool.{false≢true}
use Rattle.vfm_move.specs.WorkedEnds.{three}
use Rattle.vfm_move.proofs.worked_ends.unheard.Goals as goal

pub returns-clause-cut_short : goal.returns-clause-cut_short
returns-clause-cut_short c bytes heard =
    false≢true (heard.cut (subst (λ (xs : List ℕ). length xs < 44) heard.came (omega arith)))

none_of_three : three ≡ [] → ⊥
none_of_three same = cc

pub returns-clause-others : goal.returns-clause-others
returns-clause-others c heard = none_of_three heard.came
