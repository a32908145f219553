use Rattle.std.proofs.Common.{◌≡◌, ◌<◌, ℕ, []}
use Rattle.vfm_mesh.specs.Rows.{all_taken, funnel_rings, channel_count, known}
use Rattle.vfm_mesh.proofs.funnel.Funnel.take.Given as goal

-- the rings so far gave nothing
abbrev pub invariant-loop-channel : goal.invariant-loop-channel
invariant-loop-channel l = record {
  taken : all_taken l.self ≡ all_taken l.initial.self;
  nothing : (k : ℕ) → k < l.channel → known l.self k ≡ [];
  rings : funnel_rings l.self ≡ funnel_rings l.initial.self;
  channels : channel_count l.self ≡ channel_count l.initial.self;
}
