use Rattle.std.proofs.Common.{◌≡◌, [], length}
use Rattle.vfm_mesh.specs.Feeds.{feed_given, feed_kept, feed_ring}
use Rattle.vfm_mesh.proofs.feed.Feed.refill.Given as goal

-- nothing is lost or overtaken, and where nothing was kept nothing is done
abbrev pub invariant-loop-self : goal.invariant-loop-self
invariant-loop-self l = record {
  given : feed_given l.self ≡ feed_given l.initial.self;
  nothing : feed_kept l.initial.self ≡ [] → (feed_kept l.self ≡ []) × (l.self.ring ≡ l.initial.self.ring);
  ring : feed_ring l.self ≡ feed_ring l.initial.self;
}

abbrev pub decreases-loop-self : goal.decreases-loop-self
decreases-loop-self l = length l.self.kept.items
