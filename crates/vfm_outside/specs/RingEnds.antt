-- The links over rings of the two ends, and what they tell.
use Rattle.std.specs.Prelude.{◌≡◌, ℕ, ◌+◌, ◌*◌, ◌<◌, ◌==◌, if◌then◌else◌, Option, Some, None, List, length, map, All, slice_index_or}
use Rattle.std.specs.List.{filter_map}
use Rattle.rtrb.specs.Ring.{sent, producer_capacity, IsPair, SameProducer, SameConsumer}
use Rattle.vfm_outside.specs.declared.ring_link.RingLink.{RingLink}
use Rattle.vfm_outside.specs.declared.wires.Ends.{Ends}
use Rattle.vfm_outside.specs.Links.{Told, ToldEnds, IsNew, ends_faults}
use Rattle.vfm_outside.specs.Carried.{ends_told}
use Rattle.vfm_outside.specs.Pieces.{pieces_bytes}
use Rattle.vfm_outside.specs.Rings.{came}
use Rattle.vfm_outside.specs.Script.{Plan, new_plan}

-- what a link over rings reports
abbrev pub ring_told : RingLink → Told
ring_told link = record {
  ended = link.ended;
  failed_out = link.failed_out;
  failed_in = link.failed_in;
  sent = Some (pieces_bytes (sent link.out));
  received = Some (came link.inlet);
}

-- what the links over rings of the two ends tell
abbrev pub ring_ends : Ends RingLink → ToldEnds
ring_ends ends = ends_told ring_told ends

-- the faults of the links that are held, if there are any
abbrev pub held_ring_faults : Option (Ends RingLink) → ℕ
held_ring_faults None = 0
held_ring_faults (Some ends) = ends_faults (ring_ends ends)

-- the link is over the rings that it was over
abbrev pub IsSameRings : RingLink → RingLink → Type 0
IsSameRings before now = SameProducer before.out now.out × SameConsumer before.inlet.ring now.inlet.ring

-- what each of two links sends, the other one receives
abbrev pub AreJoined : RingLink → RingLink → Type 0
AreJoined near far = IsPair near.out far.inlet.ring × IsPair far.out near.inlet.ring

-- the number of a call that is to fail, if it is one of this link
abbrev pub call_of : ℕ → ℕ × ℕ → Option ℕ
call_of link pair = if pair.0 == link then Some pair.1 else None

-- the plan of the link of this number, where these (link, call) pairs fail: a piece has at most 256 bytes
abbrev pub plan_of : List (ℕ × ℕ) → ℕ → Plan
plan_of fail link = new_plan (filter_map (call_of link) fail) 256

-- how wires make their links: the (link, call) pairs that fail, the slots of a ring, and how often a link looks again
pub record Settings : Type 0 where
  pub fail : List (ℕ × ℕ)
  pub slots : ℕ
  pub patience : ℕ

-- these settings
abbrev pub settings_of : List (ℕ × ℕ) → ℕ → ℕ → Settings
settings_of fail slots patience = record { fail = fail; slots = slots; patience = patience }

-- the link of this number is made as the wires say
pub record IsMade (settings : Settings) (number : ℕ) (link : RingLink) : Type 0 where
  pub script : link.script ≡ plan_of settings.fail number
  pub slots : producer_capacity link.out ≡ settings.slots
  pub patience : link.patience ≡ settings.patience

-- the links of a row, numbered from a number on in steps of two, are made as the wires say
abbrev pub AreMade : Settings → ℕ → List RingLink → Type 0
AreMade settings first links = (k : ℕ) (d : RingLink) → k < length links → IsMade settings (first + 2 * k) (slice_index_or links k d)

-- source control is link 0, destination control 1, source channel k is 2 + 2k and destination channel k is 3 + 2k
pub record AreNumbered (settings : Settings) (ends : Ends RingLink) : Type 0 where
  pub source_control : IsMade settings 0 ends.source_control
  pub dest_control : IsMade settings 1 ends.dest_control
  pub source : AreMade settings 2 ends.source.items
  pub dest : AreMade settings 3 ends.dest.items

-- each link of the source is joined with the destination's of the same place
pub record AreConnected (ends : Ends RingLink) : Type 0 where
  pub control : AreJoined ends.source_control ends.dest_control
  pub channels : (k : ℕ) (d e : RingLink) → k < length ends.source.items
      → AreJoined (slice_index_or ends.source.items k d) (slice_index_or ends.dest.items k e)

-- the channels of the two ends: new, numbered, and each of the source joined with the destination's of the same place
pub record AreRows (settings : Settings) (channels : ℕ) (source dest : List RingLink) : Type 0 where
  pub source_count : length source ≡ channels
  pub dest_count : length dest ≡ channels
  pub source_new : All IsNew (map ring_told source)
  pub dest_new : All IsNew (map ring_told dest)
  pub source_made : AreMade settings 2 source
  pub dest_made : AreMade settings 3 dest
  pub joined : (k : ℕ) (d e : RingLink) → k < length source → AreJoined (slice_index_or source k d) (slice_index_or dest k e)
