use Rattle.vfm_recv.specs.Pumped.{seen}
use Rattle.vfm_dest.proofs.Hearing.{was-read}
use Rattle.vfm_dest.proofs.channel_worker.ChannelWorker.work.Goals as goal

pub returns : goal.returns
returns g c =
    let before = c.args.self.now in
    record {
      read =
          was-read before.reader.expect
          (seen g.L.Link.received g.L.Link.ended g.L.Link.failed_in before.reader.link before.fan)
          (seen g.L.Link.received g.L.Link.ended g.L.Link.failed_in c.pump-self.new.self.link c.pump-self.new.fan)
          c.pump-self.result c.pump-self.ensures.pumped c.requires.streams c.requires.nothing;
      rings = c.pump-self.ensures.rings;
      sent = c.pump-self.ensures.sent;
      finished = c.pump-self.ensures.finished;
      failed_out = c.pump-self.ensures.failed_out;
    }
