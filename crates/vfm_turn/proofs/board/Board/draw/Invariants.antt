use Rattle.vfm_turn.specs.Seen.{touches_in}
use Rattle.vfm_turn.specs.Words.{holds_from}
use Rattle.vfm_turn.proofs.board.Board.draw.Given as goal

abbrev pub ghosts-draw_as : goal.ghosts-draw_as
ghosts-draw_as g a = record { entry = a._e; touches = touches_in a._cells.now (holds_from g.T.Kept.state a.t.now.seat.me.0.holds a.t.now.order.items) }
