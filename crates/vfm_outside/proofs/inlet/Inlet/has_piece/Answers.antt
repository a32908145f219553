use Rattle.std.proofs.Common.{◌∙◌, rules}
use Rattle.vfm_outside.proofs.inlet.Inlet.has_piece.Goals as goal

pub loop-preserved : goal.loop-preserved
loop-preserved c = record {
  came = c.sees_piece.ensures.came ∙ c.loop.invariant.came;
  stays = λ has. c.sees_piece.ensures.stays (c.loop.invariant.known has) ∙ c.loop.invariant.stays has;
  known = λ has. c.sees_piece.ensures.keeps (c.loop.invariant.known has);
  at = c.sees_piece.ensures.at ∙ c.loop.invariant.at;
  ring = search rules;
}
