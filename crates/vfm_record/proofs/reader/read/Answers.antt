-- The tests and the encoding agree.
use Rattle.std.proofs.Common.{◌≡◌, ap, ◌∙◌, arith}
use Rattle.vfm_base.specs.Words.{IsBytes}
use Rattle.vfm_record.specs.Record.{Record, record_bytes, IsRecordOf}
use Rattle.vfm_record.specs.Tests.{record_fault, record_at}
use Rattle.vfm_record.proofs.Found.{found}
use Rattle.vfm_record.proofs.Again.{again}
use Rattle.vfm_record.proofs.Answered.{given, is_given}
use Rattle.vfm_record.proofs.reader.read.Goals as goal

pub returns-clause-found : goal.returns-clause-found
returns-clause-found c =
    let D = c.args.desc.now in
    let stream = c.args.stream in
    let bytes = c.args.bytes.now in
    let fits : IsBytes bytes = λ i. omega (arith, c.type_inv.bytes i) in
    let P : Record → Type 0 = λ r. IsRecordOf D stream r × (bytes ≡ record_bytes r) in
    given P c.tested.result (record_fault D stream bytes) (record_at stream bytes) c.tested.ensures (found D stream bytes fits)

pub returns-clause-only : goal.returns-clause-only
returns-clause-only c r is encoded =
    let D = c.args.desc.now in
    let stream = c.args.stream in
    let there = again D stream r is in
    let none = ap (record_fault D stream) encoded ∙ there.0 in
    let read = ap (record_at stream) encoded ∙ there.1 in
    is_given c.tested.result (record_fault D stream c.args.bytes.now) r (rw read at c.tested.ensures) none
