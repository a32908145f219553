-- What becomes of the text where the buffer is written out on the way.
use Rattle.std.proofs.Common.{refl}
use Rattle.std.proofs.lemmas.Result.{err_from_is_err_and}
use Rattle.vfm_outside.specs.Tells.{sink_tells}
use Rattle.vfm_text.specs.Buffered.{buffered}
use Rattle.vfm_text.proofs.Flushing.{flush_spills, long_writes}
use Rattle.vfm_text.proofs.sink_writer.SinkWriterTextWriter.put.Goals as goal

pub returns-in_err-flush : goal.returns-in_err-flush
returns-in_err-flush g c =
    let p = err_from_is_err_and c.from_residual.result c.from_residual.ensures.1 in
    let f = c.in_err-flush.ensures in
    rw (p.1) (refl, flush_spills _ _ c.args.bytes.now f.failed.0 f.failed.2 f.count.never_falls f.count.failed)

pub returns-then-bytes-gt-ROOM : goal.returns-then-bytes-gt-ROOM
returns-then-bytes-gt-ROOM g c =
    let f = c.in_ok-flush.ensures in
    let w = c.write_all.ensures in
    long_writes _ (buffered c.flush.new.self (sink_tells _ _)) _ c.write_all.result c.args.bytes.now refl (record { empty = f.empty; taken = f.ok; count = f.count.ok }) w.count w.ok w.failed
