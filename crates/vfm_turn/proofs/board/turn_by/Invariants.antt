use Rattle.std.proofs.Common.{◌≡◌, ◌++◌, take, drop}
use Rattle.vfm_turn.proofs.board.turn_by.Given as goal

abbrev pub invariant-loop-i : goal.invariant-loop-i
invariant-loop-i g l = (l.seat.table_id ≡ l.initial.seat.table_id) × (l.seat.id ≡ l.initial.seat.id) × (l.seat.me ≡ (l.initial.seat.me.0, drop l._i l.initial.seat.me.1 ++ take l._i l.initial.seat.me.1))
