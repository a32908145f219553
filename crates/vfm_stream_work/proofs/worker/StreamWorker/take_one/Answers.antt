use Rattle.std.proofs.Common.{refl}
use Rattle.vfm_stream_work.proofs.Working.{worked-idle, worked-one, in-rows}
use Rattle.vfm_stream_work.proofs.worker.StreamWorker.take_one.Goals as goal

pub returns-in-Some : goal.returns-in-Some
returns-in-Some c =
    worked-one c.args.desc.now c.args.self.now (record c.args.self.now { funnel = c.take.new.self }) c.give.new.self c.in-Some.field-0-0 c.in-Some.parcel
    (in-rows c.args.self.now.funnel c.in-Some.field-0-0 c.in-Some.ensures.channel)
    c.in-Some.ensures.some c.take.ensures.rings refl refl c.give.ensures.given c.give.ensures.funnel

pub returns-in-None : goal.returns-in-None
returns-in-None c =
    worked-idle c.args.desc.now c.args.self.now _ c.requires refl refl c.take.ensures.rings c.in-None.ensures.none
