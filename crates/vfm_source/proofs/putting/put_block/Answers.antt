-- The block can be written, there is an index for it, and its bytes are those of the run's machine.
use Rattle.std.proofs.Common.{◌≡◌, ℕ, suc, ◌+◌, ◌≤◌, List, OnOk, subst, sym, arith}
use Rattle.vfm_record.specs.Record.{Block, KeepsBell}
use Rattle.vfm_types.specs.Deliveries.{block_bytes, machine_of}
use Rattle.vfm_streams.specs.Sent.{push, sent_in_passes}
use Rattle.vfm_outlets.specs.Carrying.{Carries}
use Rattle.vfm_source.proofs.Records.{block_bell, block_is, block_low, index_there, stream_low}
use Rattle.vfm_source.proofs.putting.put_block.Goals as goal

pub put-requires-clause-writable : goal.put-requires-clause-writable
put-requires-clause-writable g c κs within =
    let core = c.args.core.now in
    let valid = c.desc.ensures.fits.valid in (
      block_low core.desc c.args.d c.args.b valid c.requires.device c.requires.block,
      c.block.ensures.count,
      subst (KeepsBell c.args.b) (sym c.block.ensures.value)
          (block_bell core.desc c.requires.conveying.course.past core.world c.args.d c.args.b valid c.requires.conveying.conveys.run
          c.requires.device c.requires.block),
    )

pub put-requires-clause-count : goal.put-requires-clause-count
put-requires-clause-count g c κs within =
    let low : suc c.args.d ≤ 8 = stream_low c.args.core.now.desc c.args.d c.desc.ensures.fits.valid c.requires.device in
    index_there g.L.Link.sent c.requires.conveying.course c.args.core.now c.args.outlets.now (c.from.result + 1) c.desc.ensures.fits.valid
    c.requires.conveying.conveys (omega (arith, c.from.ensures, low))

pub returns-clause-put : goal.returns-clause-put
returns-clause-put g c = λ course is.
    let D = c.args.core.now.desc in
    let all = sent_in_passes D course.past in
    let stream : c.from.result + 1 ≡ suc c.args.d = omega (arith, c.from.ensures) in
    subst (λ (s : ℕ). OnOk c.put.result
    (Carries g.L.Link.sent D course.starts (push s (Block c.args.b (block_bytes (machine_of D course.past) c.args.d c.args.b)) all) c.put.new.self)) stream
    (subst (λ (bytes : List ℕ). OnOk c.put.result
    (Carries g.L.Link.sent D course.starts (push (c.from.result + 1) (Block c.args.b bytes) all) c.put.new.self))
    (block_is D course.past c.args.core.now.world c.args.d c.args.b c.block.result.now is.run c.requires.device c.block.ensures.value)
    (c.put.ensures.put D course.starts all is.carries))
