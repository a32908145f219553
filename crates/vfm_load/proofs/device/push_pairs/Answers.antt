-- Each pair stands behind those before it.
use Rattle.std.proofs.Common.{ℕ, List, [], ◌∷◌, ◌++◌, take, ap, sym, ◌∙◌, arith, append_assoc}
use Rattle.std.proofs.lemmas.List.{take_all}
use Rattle.vfm_record.specs.Record.{pairs_of}
use Rattle.vfm_record.proofs.Pairs.{length-pairs_of}
use Rattle.vfm_load.proofs.PairLemmas.{pair_last}
use Rattle.vfm_load.proofs.device.push_pairs.Goals as goal

pub loop-i-preserved : goal.loop-i-preserved
loop-i-preserved c =
    let more = pair_last c.args.count c.loop-i.i c.args.bytes.now c.pending_at.result c.loop-i-test.true
    (λ d. c.pending_at.ensures.pair c.args.count d c.loop-i-test.true) in
    let old = c.args.pending.now.items in
    let front = take c.loop-i.i (pairs_of c.args.count c.args.bytes.now) in
    record {
      items = c.push_reserved.ensures.items ∙ ap (λ (xs : List (ℕ × ℕ)). xs ++ c.pending_at.result ∷ []) c.loop-i.invariant.items
          ∙ append_assoc old front (c.pending_at.result ∷ []) ∙ ap (λ (xs : List (ℕ × ℕ)). old ++ xs) (sym more);
      len = omega arith;
      room = omega arith;
    }

pub returns-clause-items : goal.returns-clause-items
returns-clause-items c =
    let all = length-pairs_of c.args.count c.args.bytes.now in
    c.loop-i.invariant.items
    ∙ ap (λ (xs : List (ℕ × ℕ)). c.args.pending.now.items ++ xs) (take_all c.loop-i.i (pairs_of c.args.count c.args.bytes.now) (omega (arith, all)))
