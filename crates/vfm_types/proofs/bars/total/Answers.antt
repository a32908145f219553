-- A sum that doesn't fit is above the last number of 32 bits.
use Rattle.std.proofs.Common.{ℕ, arith}
use Rattle.std.proofs.lemmas.List.Sums.{sum_by_more_le}
use Rattle.vfm_types.proofs.bars.total.Goals as goal

pub returns-in-None : goal.returns-in-None
returns-in-None c =
    let more = sum_by_more_le (λ (x : ℕ). x) c.args.sizes.now c.loop-size.size-index 0 c.loop-size-test.true in
    let sums = c.loop-size.invariant in
    omega (arith, more, sums, c.in-None.ensures)
