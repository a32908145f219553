use Rattle.std.proofs.Common.{◌≡◌}
use Rattle.rtrb.specs.Ring.{known_items, SameConsumer}
use Rattle.vfm_outside.specs.Pieces.{first_bytes}
use Rattle.vfm_outside.specs.Rings.{came, HasPiece}
use Rattle.vfm_outside.proofs.inlet.Inlet.has_piece.Given as goal

abbrev pub invariant-loop : goal.invariant-loop
invariant-loop l = record {
  came : came l.self ≡ came l.initial.self;
  stays : HasPiece l.initial.self → first_bytes (known_items l.self.ring) ≡ first_bytes (known_items l.initial.self.ring);
  known : HasPiece l.initial.self → HasPiece l.self;
  at : l.self.at ≡ l.initial.self.at;
  ring : SameConsumer l.initial.self.ring l.self.ring;
}
