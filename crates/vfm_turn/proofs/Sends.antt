-- A ticket may go to another thread, where the values of the cells may.
use Rattle.std.proofs.Crossing.{Vec-send, crosses}
use Rattle.std.proofs.option.Option.TheSendSync as option
use Rattle.std.specs.contracts.option.Option.{the_row as option_row}
use denote.RattleType.{RattleType}
use denote.Param.Send.{IsSend, struct_send, recorded_send, sendable}
use denote.Struct.Declared.{shape}
use Rattle.atomic_table.proofs.Sent.{seat_keyless}
use Rattle.atomic_table.specs.contracts.shared.Seat.{the_row as seat_row}
use Rattle.vfm_turn.specs.declared.kept.Kept.{Ghosts}
use Rattle.vfm_turn.specs.contracts.seen.View.{the_row as view_row}
use Rattle.vfm_turn.specs.contracts.seen.Held as held
use Rattle.vfm_turn.specs.contracts.ticket.Ticket as ticket

seat_send : (S V : RattleType) → IsSend S → IsSend (seat_row S V)
seat_send S V s = record { owned = λ d vs. ((λ vss. (tt, ((λ uss. (tt, tt)), tt))), seat_keyless S s V.coded.code d.table_id d.id d.me); leaving = λ k f vs. tt }

held_send : (T : RattleType) → IsSend (held.the_row T)
held_send T = recorded_send (held.the_field T).row _ _ (held.the_type T).to_one (struct_send (shape (held.the_type T)) (search sendable, (search (crosses, sendable), tt)))

module _ (T Z : RattleType) (g : Ghosts T.Denot Z.Denot) where
  pub ticket_field_send : IsSend T → IsSend (ticket.the_field T Z g).row
  ticket_field_send s = struct_send (shape (ticket.the_type T Z g)) (
    search sendable,
    (
      seat_send (option_row T) (view_row Z) (option.the_send T s),
      (Vec-send (held.the_row T) (held_send T), (Vec-send T s, tt)),
    ),
  )

  pub ticket_send : IsSend T → IsSend (ticket.the_row T Z g)
  ticket_send s = recorded_send (ticket.the_field T Z g).row _ _ (ticket.the_type T Z g).to_one (ticket_field_send s)
