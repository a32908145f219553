use Rattle.serde_json.specs.View.{view}
use Rattle.vfm_desc.proofs.Parsed.{parsed-ok, parsed-err, not_both}
use Rattle.vfm_desc.proofs.described.parsed.Goals as goal

pub returns-in-Ok : goal.returns-in-Ok
returns-in-Ok c = parsed-ok c.args.bytes.now (view c.in-Ok.value) c.if-bytes-gt-MOST_BYTES.false c.in-Ok.ensures.ok.0 c.in-Ok.ensures.ok.1

pub returns-else-is_memory : goal.returns-else-is_memory
returns-else-is_memory c =
    parsed-err c.args.bytes.now c.if-bytes-gt-MOST_BYTES.false
    (c.in-Err.ensures.err (λ memory. not_both c.is_memory.result (c.is_memory.ensures.1 memory) c.if-is_memory.false))
