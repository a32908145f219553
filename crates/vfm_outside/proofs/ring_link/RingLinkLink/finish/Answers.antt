use Rattle.std.proofs.Common.{◌∙◌, ap, List, [], ◌∷◌, ◌++◌}
use Rattle.vfm_outside.specs.declared.piece.Piece.{Piece}
use Rattle.vfm_outside.proofs.ring_link.RingLinkLink.finish.Goals as goal

pub returns-clause-end : goal.returns-clause-end
returns-clause-end c = (
  c.end.result,
  c.end.ensures,
  c.push_reserved.ensures.sent.0 ∙ ap (λ (pieces : List Piece). pieces ++ c.end.result ∷ []) c.has_slot.ensures.sent,
)
