use Rattle.std.proofs.Common.{◌≡◌, ◌∙◌, ap, ℕ, List, ◌++◌, length, arith}
use Rattle.vfm_record.specs.Record.{Pending, record_bytes}
use Rattle.vfm_outlets.proofs.Fitting.{pairs_fit}
use Rattle.vfm_outlets.proofs.outlets.Outlets.put_pending.Goals as goal

pub put_payload-requires-clause-few : goal.put_payload-requires-clause-few
put_payload-requires-clause-few g c κs within =
    let encoded : c.write_pending.new.out.items ≡ record_bytes (Pending c.args.pairs.now) =
    c.in_ok-write_pending.ensures.ok ∙ ap (λ (bytes : List ℕ). bytes ++ record_bytes (Pending c.args.pairs.now)) c.clear.ensures.items in
    omega (arith, ap length encoded, pairs_fit c.args.pairs.now c.requires.few)
