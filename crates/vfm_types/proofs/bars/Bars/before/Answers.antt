-- The first sizes add up to no more than all of them.
use Rattle.std.proofs.Common.{ℕ, ◌≡◌, ap, arith}
use Rattle.std.specs.Prelude.{sum}
use Rattle.std.proofs.lemmas.List.Sums.{sum_by-take-le}
use Rattle.vfm_types.proofs.bars.Bars.before.Goals as goal

pub sum_of-requires : goal.sum_of-requires
sum_of-requires c =
    let same : sum c.as_slice.result.now ≡ sum c.args.self.now = ap sum c.as_slice.ensures.value in
    omega (arith, sum_by-take-le (λ (x : ℕ). x) c.as_slice.result.now c.args.i)
