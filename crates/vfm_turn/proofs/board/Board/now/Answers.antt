use Rattle.std.proofs.Common.{◌≡◌, ◌+◌, arith}
use Rattle.vfm_turn.proofs.Keeps.{notes}
use Rattle.vfm_turn.proofs.Calls.{seen_noted}
use Rattle.vfm_turn.proofs.board.Board.now.Goals as goal

pub load-requires : goal.load-requires
load-requires g c = let t = c.args.t.now in let b = c.args.self.now in
    (c.requires.ticket.0, (let a : b.table.shared.table_id.words ≡ b.table.shared.table_id.slots + 1 = b.words in omega arith), notes g.T.Kept.state g.T.Kept.fits b.table.shared.key _ _ t.seat.me t.live)

pub returns-clause-seen : goal.returns-clause-seen
returns-clause-seen g c = let t = c.args.t.now in seen_noted g.T.Kept.state c.load.result t.seat.me.0 c.load.new.seat.me.0 t.order.items c.load.ensures.2.1 t.in_order
