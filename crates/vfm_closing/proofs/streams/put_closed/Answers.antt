-- Memory's stream is closed first, and then those of the devices.
use Rattle.std.proofs.Common.{arith}
use Rattle.vfm_record.specs.Record.{Config}
use Rattle.vfm_record.specs.Shape.{shape_digest}
use Rattle.vfm_streams.specs.Sent.{push, with_all_closed}
use Rattle.vfm_streams.proofs.Grown.{grows_closed}
use Rattle.vfm_closing.specs.Closing.{CarriesPart}
use Rattle.vfm_closing.proofs.Parts.{on_err, whole_part}
use Rattle.vfm_closing.proofs.Room.{room_for}
use Rattle.vfm_closing.proofs.streams.put_closed.Goals as goal

pub put_config-requires-clause-room : goal.put_config-requires-clause-room
put_config-requires-clause-room g c κs within = room_for g.L.Link.sent c.args.outlets.now 121 1 c.requires.room (omega arith)

pub put_devices-requires-clause-room : goal.put_devices-requires-clause-room
put_devices-requires-clause-room g c κs within =
    let room = c.requires.room in
    record {
      desc = room.desc;
      starts = room.starts;
      all = push 0 (Config (shape_digest c.args.desc.now 0)) room.all;
      carries = c.in_ok-put_config.ensures.put room.desc room.starts room.all room.carries;
      few = omega (arith, room.few);
    }

pub returns-in_err-put_config-clause-part : goal.returns-in_err-put_config-clause-part
returns-in_err-put_config-clause-part g c = λ D starts all carried.
    let closed = with_all_closed c.args.desc.now c.args.joint.now all in
    on_err c.from_residual.result (CarriesPart g.L.Link.sent D starts closed c.put_config.new.outlets)
    (whole_part g.L.Link.sent D starts all closed c.put_config.new.outlets (grows_closed c.args.desc.now c.args.joint.now all)
    (c.in_err-put_config.ensures.unchanged D starts all carried))
