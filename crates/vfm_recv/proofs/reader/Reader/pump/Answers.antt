use Rattle.vfm_recv.proofs.Outs.{late, stops-late, closes-says}
use Rattle.vfm_recv.proofs.reader.Reader.pump.Goals as goal

pub returns-in-Err-clause-pumped : goal.returns-in-Err-clause-pumped
returns-in-Err-clause-pumped g c =
    let read = c.read_out-end.ensures.read in
    record {
      came = read.came;
      received = read.received;
      most = read.most;
      says = late c.args.fan.now c.read_out-end.new.fan c.close.new.self _ c.close.ensures.streams c.read_out-end.result _ read.says c.in-Err.ensures.in_part;
      counts = c.read_out-end.ensures.never_falls;
      stops = stops-late c.read_out-end.result _ _ _ read.counts read.stops;
    }

pub returns-in-Ok-clause-pumped : goal.returns-in-Ok-clause-pumped
returns-in-Ok-clause-pumped g c =
    let read = c.read_out-end.ensures.read in
    record {
      came = read.came;
      received = read.received;
      most = read.most;
      says = closes-says c.args.fan.now c.read_out-end.new.fan c.close.new.self _ c.close.ensures.streams c.in-Ok.ensures.closed c.read_out-end.result _ read.says;
      counts = read.counts;
      stops = read.stops;
    }
