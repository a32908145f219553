-- The tests of pending requests in their order.
use Rattle.std.proofs.Common.{refl, arith}
use Rattle.vfm_record.specs.Record.{pairs_of}
use Rattle.vfm_record.proofs.Pairs.{length-pairs_of}
use Rattle.vfm_load.proofs.PairLemmas.{too_many, pair_refused, pairs_taken}
use Rattle.vfm_load.proofs.device.DeviceStore.take_pending.Goals as goal

pub returns-then-len-count : goal.returns-then-len-count
returns-then-len-count c =
    let pairs = pairs_of c.args.count c.args.bytes.now in
    let all = length-pairs_of c.args.count c.args.bytes.now in
    (too_many c.args.jobs pairs _ c.args.self.now c.self.view_is c.if-not-self.false (omega (arith, all, c.self.inside.pending.ok)), refl)

pub returns-in-Ok : goal.returns-in-Ok
returns-in-Ok c =
    let pairs = pairs_of c.args.count c.args.bytes.now in
    let all = length-pairs_of c.args.count c.args.bytes.now in
    pairs_taken c.args.jobs pairs _ c.args.self.now c.self.view_is c.if-not-self.false (omega (arith, all, c.self.inside.pending.ok)) _ refl
    c.push_pairs.ensures.items c.in-Ok.ensures.1 c.push_pairs.ensures.room c.in-Ok.ensures.0

pub returns-in-Err : goal.returns-in-Err
returns-in-Err c =
    let pairs = pairs_of c.args.count c.args.bytes.now in
    let all = length-pairs_of c.args.count c.args.bytes.now in
    (pair_refused c.args.jobs pairs _ c.args.self.now c.self.view_is c.if-not-self.false (omega (arith, all, c.self.inside.pending.ok)) c.in-Err.place c.in-Err.ensures, refl)
