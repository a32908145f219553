-- One feed of a mesh: what was given to it, what of it is kept, which slots are free, and which ring it is over.
use Rattle.std.specs.Prelude.{ℕ, List, ◌++◌}
use Rattle.std.specs.declared.alloc.Global.{Global}
use denote.RawPtr.{Ptr}
use Rattle.rtrb.specs.declared.producer.Producer.{Producer}
use Rattle.rtrb.specs.declared.consumer.Consumer.{Consumer}
use Rattle.rtrb.specs.Ring.{sent, known_free}
use Rattle.vfm_mesh.specs.declared.parcel.Parcel.{Parcel}
use Rattle.vfm_mesh.specs.declared.feed.Feed.{Feed}

-- what was given to a feed, oldest first: what went into the ring, and what is kept
abbrev pub feed_given : Feed → List Parcel
feed_given feed = sent feed.ring ++ feed.kept.items

-- what of it waits for a free slot
abbrev pub feed_kept : Feed → List Parcel
feed_kept feed = feed.kept.items

-- how many slots the feed knows to be free
abbrev pub feed_free : Feed → ℕ
feed_free feed = known_free feed.ring

-- which ring the end of a ring is of
pub record RingId : Type 0 where
  pub words : Ptr
  pub slots : Ptr
  pub names : ℕ × (ℕ × ℕ)
  pub heap : Global

abbrev pub producer_ring : {T P : Type 0} → Producer T Global P → RingId
producer_ring p = record { words = p.end.words; slots = p.end.slots; names = p.end.names; heap = p.end.heap }

abbrev pub consumer_ring : {T P : Type 0} → Consumer T Global P → RingId
consumer_ring c = record { words = c.end.words; slots = c.end.slots; names = c.end.names; heap = c.end.heap }

abbrev pub feed_ring : Feed → RingId
feed_ring feed = producer_ring feed.ring
