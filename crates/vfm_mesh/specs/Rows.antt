-- Fans and funnels, stream by stream and channel by channel.
use Rattle.std.specs.Prelude.{◌≡◌, ℕ, ◌<◌, List, [], ◌∷◌, ◌++◌, length, map, take, drop, slice_index_or}
use Rattle.rtrb.specs.Ring.{received, known_items}
use Rattle.vfm_mesh.specs.declared.parcel.Parcel.{Parcel}
use Rattle.vfm_mesh.specs.declared.parcel.Parcel.TheVariants.{Close}
use Rattle.vfm_mesh.specs.declared.fan.Fan.{Fan}
use Rattle.vfm_mesh.specs.declared.funnel.Funnel.{Funnel}
use Rattle.vfm_mesh.specs.Feeds.{RingId, feed_given, feed_kept, feed_free, feed_ring, consumer_ring}

-- how many streams a fan has
abbrev pub stream_count : Fan → ℕ
stream_count fan = length fan.feeds.items

-- what a fan was given, for each stream
abbrev pub all_given : Fan → List (List Parcel)
all_given fan = map feed_given fan.feeds.items

-- what a fan was given for a stream, oldest first
abbrev pub given : Fan → ℕ → List Parcel
given fan s = slice_index_or (all_given fan) s []

-- what a fan keeps, for each stream
abbrev pub all_kept : Fan → List (List Parcel)
all_kept fan = map feed_kept fan.feeds.items

-- what a fan keeps of a stream while its ring is full
abbrev pub kept : Fan → ℕ → List Parcel
kept fan s = slice_index_or (all_kept fan) s []

-- how many slots of its rings the fan knows to be free, for each stream
abbrev pub all_free : Fan → List ℕ
all_free fan = map feed_free fan.feeds.items

-- how many slots of a stream's ring the fan knows to be free
abbrev pub free_slots : Fan → ℕ → ℕ
free_slots fan s = slice_index_or (all_free fan) s 0

-- a ring of which no slot is known to be free
pub record HasFullRing (fan : Fan) : Type 0 where
  pub stream : ℕ
  pub inside : stream < stream_count fan
  pub full : free_slots fan stream ≡ 0

-- the rings of a fan, one a stream
abbrev pub fan_rings : Fan → List RingId
fan_rings fan = map feed_ring fan.feeds.items

-- how many channels a funnel has
abbrev pub channel_count : Funnel → ℕ
channel_count funnel = length funnel.rings.items

-- what was taken out of a funnel, for each channel
abbrev pub all_taken : Funnel → List (List Parcel)
all_taken funnel = map received funnel.rings.items

-- what was taken out of a funnel of a channel, oldest first
abbrev pub taken : Funnel → ℕ → List Parcel
taken funnel k = slice_index_or (all_taken funnel) k []

-- the parcels that a funnel knows to be in its rings, for each channel
abbrev pub all_known : Funnel → List (List Parcel)
all_known funnel = map known_items funnel.rings.items

-- the parcels that a funnel knows to be in a channel's ring
abbrev pub known : Funnel → ℕ → List Parcel
known funnel k = slice_index_or (all_known funnel) k []

-- the rings of a funnel, one a channel
abbrev pub funnel_rings : Funnel → List RingId
funnel_rings funnel = map consumer_ring funnel.rings.items

-- what was given, and the mark that nothing more comes
abbrev pub closed : List Parcel → List Parcel
closed parcels = parcels ++ Close ∷ []

-- the first of these were closed, and the others are as before
pub record ClosedInPart (before now : List (List Parcel)) : Type 0 where
  pub count : ℕ
  pub first : now ≡ map closed (take count before) ++ drop count before
