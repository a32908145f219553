-- A device keeps its sizes.
use Rattle.std.proofs.Common.{length, subst, ap, ◌∙◌, arith}
use Rattle.vfm_types.specs.declared.desc.DevShape.{DevShape}
use Rattle.vfm_types.specs.Desc.{no_shape}
use Rattle.vfm_record.specs.declared.record.Rec.{Rec}
use Rattle.vfm_record.specs.Record.{record_of, pairs_of, shape_of_stream, IsRecordOf}
use Rattle.vfm_record.proofs.Pairs.{length-pairs_of}
use Rattle.vfm_load.proofs.DeviceLemmas.{block_fits_either, pairs_fit_either}
use Rattle.vfm_load.proofs.device.DeviceStore.take.Goals as goal

pub take_pending-requires-clause-count : goal.take_pending-requires-clause-count
take_pending-requires-clause-count c =
    let all = length-pairs_of c.in-Pending.count c.in-Pending.bytes.now in
    let is = subst (λ (r : Rec). IsRecordOf c.args.desc.now c.args.stream (record_of r)) c.in-Pending.is c.requires.of_stream in
    omega (arith, all, is.of.2)

pub returns-in-Block-clause-fits : goal.returns-in-Block-clause-fits
returns-in-Block-clause-fits c =
    let shape = shape_of_stream c.args.desc.now c.args.stream in
    let is = subst (λ (r : Rec). IsRecordOf c.args.desc.now c.args.stream (record_of r)) c.in-Block.is c.requires.of_stream in
    block_fits_either shape c.in-Block.b c.in-Block.bytes.now c.args.self.now c.take_block.new.self c.take_block.result c.take_block.ensures
    is.of.2 (omega (arith, is.of.1)) c.requires.fits

pub returns-in-Pending-clause-fits : goal.returns-in-Pending-clause-fits
returns-in-Pending-clause-fits c =
    let shape = shape_of_stream c.args.desc.now c.args.stream in
    let jobs_are = c.len.ensures ∙ ap (λ (s : DevShape). length s.jobs) (c.at.ensures.value no_shape) in
    pairs_fit_either shape c.len.result (pairs_of c.in-Pending.count c.in-Pending.bytes.now) c.args.self.now c.take_pending.new.self c.take_pending.result _
    jobs_are c.take_pending.ensures c.requires.fits
