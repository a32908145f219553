-- There is an index for the record, and room for one less.
use Rattle.std.proofs.Common.{◌∙◌, sym}
use Rattle.vfm_record.specs.Record.{record_of}
use Rattle.vfm_closing.proofs.Room.{index_there, room_used}
use Rattle.vfm_closing.proofs.tests.put.Goals as goal

pub put-requires-clause-count : goal.put-requires-clause-count
put-requires-clause-count g c κs within = index_there g.L.Link.sent c.args.outlets.now c.args.stream c.requires.room c.requires.stream

pub returns : goal.returns
returns g c = record {
  room = λ n room fine.
      room_used g.L.Link.sent c.args.outlets.now c.put.new.self c.args.stream n (record_of c.args.rec.now) c.put.result room
      (c.put.ensures.put room.desc room.starts room.all room.carries) (sym c.is_ok.ensures.value ∙ fine);
}
