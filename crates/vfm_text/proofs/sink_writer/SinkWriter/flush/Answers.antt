-- What a flush prints is what was gathered, or a prefix of it.
use Rattle.std.proofs.Common.{take, drop, sym}
use Rattle.std.proofs.lemmas.List.{take-append-drop}
use Rattle.std.proofs.lemmas.Result.{IfErr-weaker}
use Rattle.vfm_text.proofs.sink_writer.SinkWriter.flush.Goals as goal

pub returns-clause-printed : goal.returns-clause-printed
returns-clause-printed g c =
    let f = c.flush.ensures in
    record {
      count = f.count;
      ok = f.ok;
      failed = IfErr-weaker c.flush.result _ _
          (λ _ h. record { written = take h.0 c.args.self.now.buffer; lost = drop h.0 c.args.self.now.buffer; whole = sym (take-append-drop h.0 c.args.self.now.buffer); taken = h.2 })
          f.failed;
    }
