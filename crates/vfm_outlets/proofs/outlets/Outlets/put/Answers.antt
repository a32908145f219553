use Rattle.std.proofs.Common.{◌≡◌, ◌∙◌, ap, ℕ, List, ◌++◌, length, arith}
use Rattle.vfm_record.specs.Record.{record_of, record_bytes}
use Rattle.vfm_outlets.proofs.Fitting.{record_fits}
use Rattle.vfm_outlets.proofs.outlets.Outlets.put.Goals as goal

pub put_payload-requires-clause-few : goal.put_payload-requires-clause-few
put_payload-requires-clause-few g c κs within =
    let encoded : c.write.new.out.items ≡ record_bytes (record_of c.args.rec.now) =
    c.in_ok-write.ensures.ok ∙ ap (λ (bytes : List ℕ). bytes ++ record_bytes (record_of c.args.rec.now)) c.clear.ensures.items in
    omega (arith, ap length encoded, record_fits c.args.rec.now c.requires.writable)
