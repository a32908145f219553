-- No entry from this one on is an arc that failed.
use Rattle.std.proofs.Common.{◌≡◌, ℕ, ◌<◌, ◌≤◌, length, slice_index_or}
use Rattle.vfm_types.specs.declared.entry.Entry.TheVariants.{Fail}
use Rattle.vfm_types.specs.declared.state.MigState.{MigState}
use Rattle.vfm_source.proofs.ending.newest_failed.Given as goal

abbrev pub invariant-loop-left : goal.invariant-loop-left
invariant-loop-left l = record {
  within : l.left ≤ length l.entries;
  none : (d : ℕ) (to : MigState) (k : ℕ) → l.left ≤ k → k < length l.entries → slice_index_or l.entries k (Fail d to) ≡ Fail d to → ⊥;
}

abbrev pub decreases-loop-left : goal.decreases-loop-left
decreases-loop-left l = l.left
