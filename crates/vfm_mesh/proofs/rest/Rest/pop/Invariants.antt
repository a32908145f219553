use Rattle.std.proofs.Common.{◌≡◌, ◌<◌, ℕ, []}
use Rattle.vfm_mesh.specs.Meshes.{left, IsSameLeft, channels_left, streams_left}
use Rattle.vfm_mesh.proofs.rest.Rest.pop.Given as goal

-- nothing is left of the channels so far, and nothing was taken
abbrev pub invariant-loop-channel : goal.invariant-loop-channel
invariant-loop-channel l = record {
  below : (k : ℕ) → k < l.channel → left l.initial.self k l.stream ≡ [];
  same : IsSameLeft l.initial.self l.self;
  channels : channels_left l.self ≡ channels_left l.initial.self;
  streams : streams_left l.self ≡ streams_left l.initial.self;
}
