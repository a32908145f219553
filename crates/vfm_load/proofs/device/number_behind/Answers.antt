-- Each pair is tested where it stands first among those that are left.
use Rattle.std.proofs.Common.{◌+◌, drop, ap, sym, ◌∙◌, arith, inl, inr}
use Rattle.std.proofs.lemmas.List.{drop_all}
use Rattle.vfm_record.specs.Record.{pairs_of}
use Rattle.vfm_record.proofs.Pairs.{length-pairs_of}
use Rattle.vfm_streams.specs.Judged.{number_after, pairs_fault}
use Rattle.vfm_load.proofs.PairLemmas.{pair_first, number_low, number_high, job_high, pair_stands}
use Rattle.vfm_load.proofs.device.number_behind.Goals as goal

pub returns-then-number-low : goal.returns-then-number-low
returns-then-number-low c =
    let pair = c.pending_at-number.result in
    let here = pair_first c.args.count c.loop-i.i c.args.bytes.now pair c.loop-i-test.true
    (λ d. c.pending_at-number.ensures.pair c.args.count d c.loop-i-test.true) in
    let rest = drop (c.loop-i.i + 1) (pairs_of c.args.count c.args.bytes.now) in
    c.loop-i.invariant.fault ∙ ap (pairs_fault c.args.accepted c.args.jobs c.loop-i.low c.loop-i.i) here
    ∙ elim c.then-number-low.either [
      | inl below ↦ number_low c.args.accepted c.args.jobs c.loop-i.low c.loop-i.i pair rest below
      | inr past ↦ number_high c.args.accepted c.args.jobs c.loop-i.low c.loop-i.i pair rest past.0 past.1
    ]

pub returns-then-job-jobs : goal.returns-then-job-jobs
returns-then-job-jobs c =
    let pair = c.pending_at-number.result in
    let here = pair_first c.args.count c.loop-i.i c.args.bytes.now pair c.loop-i-test.true
    (λ d. c.pending_at-number.ensures.pair c.args.count d c.loop-i-test.true) in
    let rest = drop (c.loop-i.i + 1) (pairs_of c.args.count c.args.bytes.now) in
    c.loop-i.invariant.fault ∙ ap (pairs_fault c.args.accepted c.args.jobs c.loop-i.low c.loop-i.i) here
    ∙ job_high c.args.accepted c.args.jobs c.loop-i.low c.loop-i.i pair rest c.if-number-low.false c.if-number-accepted.false c.if-job-jobs.true

pub loop-i-preserved : goal.loop-i-preserved
loop-i-preserved c =
    let pair = c.pending_at-number.result in
    let here = pair_first c.args.count c.loop-i.i c.args.bytes.now pair c.loop-i-test.true
    (λ d. c.pending_at-number.ensures.pair c.args.count d c.loop-i-test.true) in
    let rest = drop (c.loop-i.i + 1) (pairs_of c.args.count c.args.bytes.now) in
    record {
      fault = c.loop-i.invariant.fault ∙ ap (pairs_fault c.args.accepted c.args.jobs c.loop-i.low c.loop-i.i) here
          ∙ pair_stands c.args.accepted c.args.jobs c.loop-i.low c.loop-i.i pair rest c.if-number-low.false c.if-number-accepted.false c.if-job-jobs.false;
      after = c.loop-i.invariant.after ∙ ap (number_after c.loop-i.low) here;
    }

pub returns : goal.returns
returns c =
    let all = length-pairs_of c.args.count c.args.bytes.now in
    let none = drop_all c.loop-i.i (pairs_of c.args.count c.args.bytes.now) (omega (arith, all)) in (
      c.loop-i.invariant.fault ∙ ap (pairs_fault c.args.accepted c.args.jobs c.loop-i.low c.loop-i.i) none,
      sym (c.loop-i.invariant.after ∙ ap (number_after c.loop-i.low) none),
    )
