-- A payload that was read is refused where its record is.
use Rattle.vfm_record.specs.Record.{record_of}
use Rattle.vfm_load.proofs.LoadLemmas.{payload_taken}
use Rattle.vfm_load.proofs.loader.Loader.take.Goals as goal

pub returns-in-Ok-clause-taken : goal.returns-in-Ok-clause-taken
returns-in-Ok-clause-taken c records p says is =
    let D = c.args.desc.now in
    let s = c.args.self.now.stream in
    payload_taken D s records p c.place.new.self c.args.config c.args.payload.now (record_of c.in-Ok.rec) c.place.result is c.in-Ok.ensures.fault
    c.in-Ok.ensures.found.0 c.in-Ok.ensures.found.1 (c.place.ensures.taken records p.head.kind says is.config_is)
