use Rattle.std.proofs.Common.{◌≤◌, length}
use Rattle.vfm_codec_cases.proofs.tests.first_other.Given as goal

abbrev pub invariant-loop : goal.invariant-loop
invariant-loop l = length l.rest ≤ length l.channel
