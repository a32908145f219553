-- None of the channels before this one is refused.
use Rattle.std.proofs.Common.{◌≡◌, drop}
use Rattle.vfm_intake.specs.Verdicts.{first_end_refusal}
use Rattle.vfm_intake.proofs.verdict.refused_channel.Given as goal

abbrev pub invariant-loop-channel : goal.invariant-loop-channel
invariant-loop-channel l = record {
  left : first_end_refusal 0 l.ends ≡ first_end_refusal l.channel (drop l.channel l.ends);
}
