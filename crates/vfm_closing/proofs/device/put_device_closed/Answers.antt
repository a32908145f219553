-- What closes the stream of a device is put behind one another.
use Rattle.std.proofs.Common.{◌≡◌, ap, ℕ, suc, ◌+◌, ◌≤◌, length, arith}
use Rattle.vfm_types.specs.Machine.{device_of}
use Rattle.vfm_streams.specs.Sent.{push, push_all, pending_records, engine_record, with_device_closed}
use Rattle.vfm_outlets.specs.Carrying.{Carries}
use Rattle.vfm_closing.specs.Closing.{CarriesPart}
use Rattle.vfm_closing.proofs.Parts.{err_then, grows_device, on_err, part_part, pending_on_its_way, whole_part}
use Rattle.vfm_closing.proofs.Pieces.{few_records}
use Rattle.vfm_closing.proofs.Room.{pushed_length, room_for}
use Rattle.vfm_closing.proofs.Sizes.{engine_of, few_pending}
use Rattle.vfm_closing.proofs.device.put_device_closed.Goals as goal

pub put_engine-requires-clause-engine : goal.put_engine-requires-clause-engine
put_engine-requires-clause-engine g c κs within =
    engine_of c.args.desc.now c.args.joint.now c.requires.valid c.requires.sound c.args.d c.requires.device

pub put_engine-requires-clause-room : goal.put_engine-requires-clause-room
put_engine-requires-clause-room g c κs within = room_for g.L.Link.sent c.args.outlets.now 15 1 c.requires.room (omega arith)

pub put_config-requires-clause-room : goal.put_config-requires-clause-room
put_config-requires-clause-room g c κs within =
    let room = c.requires.room in
    let device = device_of c.args.joint.now c.args.d in
    let counts = push (suc c.args.d) (engine_record device) room.all in
    let few : length c.pending.result.now ≤ 50000 =
    omega (arith, ap (length {A = ℕ × ℕ}) c.pending.ensures, few_pending c.args.desc.now c.args.joint.now c.requires.valid c.requires.sound c.args.d c.requires.device) in
    record {
      desc = room.desc;
      starts = room.starts;
      all = push_all (c.from-stream.result + 1) (pending_records c.pending.result.now) counts;
      carries = c.in_ok-put_pendings.ensures.put room.desc room.starts counts (c.in_ok-put_engine.ensures.put room.desc room.starts room.all room.carries);
      few = omega (arith, pushed_length (c.from-stream.result + 1) (pending_records c.pending.result.now) counts, few_records c.pending.result.now few, room.few);
    }

pub returns-in_err-put_engine-clause-part : goal.returns-in_err-put_engine-clause-part
returns-in_err-put_engine-clause-part g c = λ D starts all carried.
    let closed = with_device_closed c.args.desc.now c.args.d (device_of c.args.joint.now c.args.d) all in
    on_err c.from_residual.result (CarriesPart g.L.Link.sent D starts closed c.put_engine.new.outlets)
    (whole_part g.L.Link.sent D starts all closed c.put_engine.new.outlets
    (grows_device c.args.desc.now c.args.d (device_of c.args.joint.now c.args.d) all)
    (c.in_err-put_engine.ensures.unchanged D starts all carried))

pub returns-in_err-put_pendings-clause-part : goal.returns-in_err-put_pendings-clause-part
returns-in_err-put_pendings-clause-part g c = λ D starts all carried.
    let device = device_of c.args.joint.now c.args.d in
    let closed = with_device_closed c.args.desc.now c.args.d device all in
    let counts = push (suc c.args.d) (engine_record device) all in
    let stream : c.from-stream.result + 1 ≡ suc c.args.d = omega (arith, c.from-stream.ensures) in
    on_err c.from_residual-in_err-put_pendings.result (CarriesPart g.L.Link.sent D starts closed c.put_pendings.new.outlets)
    (part_part g.L.Link.sent D starts (push_all (c.from-stream.result + 1) (pending_records c.pending.result.now) counts) closed c.put_pendings.new.outlets
    (pending_on_its_way c.args.desc.now c.args.d device all (c.from-stream.result + 1) c.pending.result.now stream c.pending.ensures)
    (c.in_err-put_pendings.ensures.part D starts counts (c.in_ok-put_engine.ensures.put D starts all carried)))

pub returns-clause-part : goal.returns-clause-part
returns-clause-part g c = λ D starts all carried.
    let device = device_of c.args.joint.now c.args.d in
    let closed = with_device_closed c.args.desc.now c.args.d device all in
    let counts = push (suc c.args.d) (engine_record device) all in
    let pending = push_all (c.from-stream.result + 1) (pending_records c.pending.result.now) counts in
    let stream : c.from-stream.result + 1 ≡ suc c.args.d = omega (arith, c.from-stream.ensures) in
    err_then c.put_config.result (Carries g.L.Link.sent D starts pending c.put_config.new.outlets)
    (CarriesPart g.L.Link.sent D starts closed c.put_config.new.outlets)
    (whole_part g.L.Link.sent D starts pending closed c.put_config.new.outlets
    (pending_on_its_way c.args.desc.now c.args.d device all (c.from-stream.result + 1) c.pending.result.now stream c.pending.ensures))
    (c.put_config.ensures.unchanged D starts pending
    (c.in_ok-put_pendings.ensures.put D starts counts (c.in_ok-put_engine.ensures.put D starts all carried)))
