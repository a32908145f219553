-- Whole meshes: which rings join fans and funnels, and what is left of a mesh once it is taken back.
use Rattle.std.specs.Prelude.{◌≡◌, ℕ, ◌<◌, List, [], ◌∷◌, ◌++◌, length, map, slice_index_or}
use Rattle.vfm_mesh.specs.declared.parcel.Parcel.{Parcel}
use Rattle.vfm_mesh.specs.declared.fan.Fan.{Fan}
use Rattle.vfm_mesh.specs.declared.funnel.Funnel.{Funnel}
use Rattle.vfm_mesh.specs.declared.rest.Rest.{Rest}
use Rattle.vfm_mesh.specs.Feeds.{RingId}
use Rattle.vfm_mesh.specs.Rows.{all_given, all_kept, all_free, fan_rings, all_taken, all_known, funnel_rings}

-- the list in a row and a column
abbrev pub cell : {X : Type 0} → List (List (List X)) → ℕ → ℕ → List X
cell rows i j = slice_index_or (slice_index_or rows i []) j []

-- what each fan was given, by channel and stream
abbrev pub given_at : List Fan → ℕ → ℕ → List Parcel
given_at fans k s = cell (map all_given fans) k s

-- what each fan keeps, by channel and stream
abbrev pub kept_at : List Fan → ℕ → ℕ → List Parcel
kept_at fans k s = cell (map all_kept fans) k s

-- how many slots each fan knows to be free, by channel and stream; `none` where there is no such ring
abbrev pub free_at : List Fan → ℕ → ℕ → ℕ → ℕ
free_at fans k s none = slice_index_or (slice_index_or (map all_free fans) k []) s none

-- what was taken out of each funnel, by channel and stream
abbrev pub taken_at : List Funnel → ℕ → ℕ → List Parcel
taken_at funnels k s = cell (map all_taken funnels) s k

-- the rings of a stream's funnel are those that each channel's fan has of that stream
pub record IsStream (fans : List (List RingId)) (rings : List RingId) (s : ℕ) : Type 0 where
  pub channels : length rings ≡ length fans
  pub inside : (k : ℕ) → k < length fans → s < length (slice_index_or fans k [])
  pub joined : (k : ℕ) (d : RingId) → k < length fans → slice_index_or (slice_index_or fans k []) s d ≡ slice_index_or rings k d

-- the fans and the funnels are all those of one mesh, in their order, by the rings that they have
pub record AreJoined (fans funnels : List (List RingId)) : Type 0 where
  pub streams : (k : ℕ) → k < length fans → length (slice_index_or fans k []) ≡ length funnels
  pub each : (s : ℕ) → s < length funnels → IsStream fans (slice_index_or funnels s []) s

abbrev pub AreMesh : List Fan → List Funnel → Type 0
AreMesh fans funnels = AreJoined (map fan_rings fans) (map funnel_rings funnels)

-- how many channels and how many streams the mesh had
abbrev pub channels_left : Rest → ℕ
channels_left rest = length rest.fans.items

abbrev pub streams_left : Rest → ℕ
streams_left rest = length rest.funnels.items

-- what is left in the ring of a channel and a stream, and what the fan kept of them
abbrev pub in_ring : Rest → ℕ → ℕ → List Parcel
in_ring rest k s = cell (map all_known rest.funnels.items) s k

abbrev pub kept_back : Rest → ℕ → ℕ → List Parcel
kept_back rest k s = cell (map all_kept rest.fans.items) k s

-- what is left of a channel and a stream, oldest first
abbrev pub left : Rest → ℕ → ℕ → List Parcel
left rest k s = in_ring rest k s ++ kept_back rest k s

-- a parcel of a stream is given: the first that is left of the least channel of which one is left; no other is gone
pub record Gives (before now : Rest) (s : ℕ) (given : ℕ × Parcel) : Type 0 where
  pub channel : given.0 < channels_left before
  pub below : (k : ℕ) → k < given.0 → left before k s ≡ []
  pub first : left before given.0 s ≡ given.1 ∷ left now given.0 s
  pub others : (k t : ℕ) → (k ≡ given.0 → t ≡ s → ⊥) → left now k t ≡ left before k t

-- the same is left
abbrev pub IsSameLeft : Rest → Rest → Type 0
IsSameLeft before now = (k s : ℕ) → left now k s ≡ left before k s

-- each row with one element more, those of a list in order
abbrev pub appended : {X : Type 0} → List (List X) → List X → List (List X)
appended [] xs = []
appended (row ∷ rows) [] = row ∷ rows
appended (row ∷ rows) (x ∷ xs) = (row ++ x ∷ []) ∷ appended rows xs
