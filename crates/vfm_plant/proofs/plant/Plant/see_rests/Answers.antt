-- All that is held is noted and left.
use Rattle.std.proofs.Common.{ℕ, ◌+◌, List, refl, ap, sym, subst, ◌∙◌}
use Rattle.vfm_turn.specs.Seen.{Hold, Seen}
use Rattle.vfm_turn.specs.Words.{desc_of, holds_of}
use Rattle.vfm_cells.specs.Cells.{Cell}
use Rattle.vfm_plant.specs.Hands.{IsHolding, at_rest}
use Rattle.vfm_plant.proofs.plant.Plant.see_rests.Goals as goal

pub leave_all-requires-clause-held : goal.leave_all-requires-clause-held
leave_all-requires-clause-held c =
    subst (λ (hs : List (Hold Cell)). IsHolding (desc_of c.args.self.now.board) hs c.args.hands.now.items) (sym (ap (λ (s : Seen Cell). s.holds) c.now-answer.ensures.seen)) c.requires.held

pub returns-clause-outcome : goal.returns-clause-outcome
returns-clause-outcome c =
    record {
      answer = c.now-answer.result;
      holds = holds_of c.args.t.now;
      noted = c.leave_all.ensures.left ∙ ap at_rest c.now-answer.ensures.seen;
      placed = ap (λ (k : ℕ). k + c.now-answer.result) c.base.ensures.value;
      look = c.requires.seen;
      bytes = refl;
    }
