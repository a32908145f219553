-- The answers so far are neither faults nor want of memory.
use Rattle.std.proofs.Common.{◌≡◌, ℕ, ◌<◌, true, slice_index_or}
use Rattle.vfm_recv.specs.declared.channel_end.ChannelEnd.TheVariants as channel_ends
use Rattle.vfm_dest.specs.Stages.{is_told}
use Rattle.vfm_dest.proofs.judging.first_fault.Given as goal

abbrev pub invariant-loop-channel : goal.invariant-loop-channel
invariant-loop-channel l = record {
  told : (j : ℕ) → j < l.channel → is_told (slice_index_or l.ends j channel_ends.Ended) ≡ true;
}
