-- What a reader's answer says, before and after the mark is given.
use Rattle.std.proofs.Common.{◌≡◌, ◌∙◌, refl, sym, ap, subst, ℕ, zero, suc, ◌≤◌, ◌<◌, ◌⊎◌, inl, inr, Option, List, [], ◌∷◌, ◌++◌, length, map, take, drop, slice_index_or, arith, append-nil, Bool, true, false, ◌||◌, ◌&&◌, ◌==◌, nat_lt, eq-eqb}
use Rattle.std.proofs.lemmas.Bool.{lt-ltb}
use Rattle.std.proofs.lemmas.List.{get_or-map, length-map}
use Rattle.vfm_outside.specs.Counts.{Rose}
use Rattle.vfm_packet.specs.Packet.{Packet}
use Rattle.vfm_packet.specs.ChannelRefusal.{ChannelRefusal}
use Rattle.vfm_mesh.specs.declared.parcel.Parcel.{Parcel}
use Rattle.vfm_mesh.specs.declared.fan.Fan.{Fan}
use Rattle.vfm_mesh.specs.Feeds.{feed_given}
use Rattle.vfm_mesh.specs.Rows.{stream_count, all_given, given, closed, ClosedInPart}
use Rattle.vfm_recv.specs.declared.channel_end.ChannelEnd.{ChannelEnd}
use Rattle.vfm_recv.specs.declared.channel_end.ChannelEnd.TheVariants as channel_ends
use Rattle.vfm_recv.specs.Handed.{parcels_of, HandsOn, Closes, HandsOnInPart}
use Rattle.vfm_recv.specs.Pumped.{Says, Counts, Stops, HandsOnFirst}

-- no fault of the link came
pub counts-still : (answer : ChannelEnd) (before now : ℕ) → (answer ≡ channel_ends.Fault → ⊥) → now ≡ before → Counts answer before now
counts-still channel_ends.Fault before now shut same = absurd (shut refl)
counts-still channel_ends.NoMemory before now shut same = omega (arith, same)
counts-still channel_ends.Ended before now shut same = same
counts-still channel_ends.TooLong before now shut same = same
counts-still (channel_ends.Aborted place) before now shut same = same
counts-still (channel_ends.Bad place cause) before now shut same = same
counts-still (channel_ends.Truncated place) before now shut same = same
counts-still (channel_ends.NoEnd place) before now shut same = same
counts-still (channel_ends.AfterEnd place) before now shut same = same

-- the link came to its end
pub stops-so : (answer : ChannelEnd) (S R : Type 0) → S → Stops answer S R
stops-so channel_ends.Fault S R s = tt
stops-so channel_ends.NoMemory S R s = inl s
stops-so channel_ends.Ended S R s = s
stops-so channel_ends.TooLong S R s = s
stops-so (channel_ends.Aborted place) S R s = s
stops-so (channel_ends.Bad place cause) S R s = s
stops-so (channel_ends.Truncated place) S R s = s
stops-so (channel_ends.NoEnd place) S R s = s
stops-so (channel_ends.AfterEnd place) S R s = s

-- the link failed
pub counts-fault : (answer : ChannelEnd) (before now : ℕ) → (answer ≡ channel_ends.Fault) ⊎ (answer ≡ channel_ends.NoMemory) → before ≤ now → Rose before now
    → Counts answer before now
counts-fault answer before now (inl is) later rose = subst (λ (a : ChannelEnd). Counts a before now) (sym is) rose
counts-fault answer before now (inr is) later rose = subst (λ (a : ChannelEnd). Counts a before now) (sym is) later

pub stops-fault : (answer : ChannelEnd) (S R : Type 0) → (answer ≡ channel_ends.Fault) ⊎ (answer ≡ channel_ends.NoMemory) → R → Stops answer S R
stops-fault answer S R (inl is) rose = subst (λ (a : ChannelEnd). Stops a S R) (sym is) tt
stops-fault answer S R (inr is) rose = subst (λ (a : ChannelEnd). Stops a S R) (sym is) (inr rose)

-- memory ran out after an answer
pub stops-late : (answer : ChannelEnd) (before now : ℕ) (S : Type 0) → Counts answer before now → Stops answer S (Rose before now) → S ⊎ Rose before now
stops-late channel_ends.Fault before now S counts stops = inr counts
stops-late channel_ends.NoMemory before now S counts stops = stops
stops-late channel_ends.Ended before now S counts stops = inl stops
stops-late channel_ends.TooLong before now S counts stops = inl stops
stops-late (channel_ends.Aborted place) before now S counts stops = inl stops
stops-late (channel_ends.Bad place cause) before now S counts stops = inl stops
stops-late (channel_ends.Truncated place) before now S counts stops = inl stops
stops-late (channel_ends.NoEnd place) before now S counts stops = inl stops
stops-late (channel_ends.AfterEnd place) before now S counts stops = inl stops

module _ (before mid now : Fan) (packets : List Packet) (count : stream_count now ≡ stream_count mid) where
  -- all packets are the first of them
  all-first : HandsOn before mid packets → HandsOnFirst before mid packets
  all-first on = record { handed = packets; others = []; first = sym (append-nil packets); on = on }

  first-always : (answer : ChannelEnd) (refusal : Option ChannelRefusal) → Says answer refusal (HandsOn before mid packets) (HandsOnFirst before mid packets)
      → HandsOnFirst before mid packets
  first-always channel_ends.Fault refusal says = all-first says
  first-always channel_ends.NoMemory refusal says = says
  first-always channel_ends.Ended refusal says = all-first says.0
  first-always channel_ends.TooLong refusal says = all-first says.0
  first-always (channel_ends.Aborted place) refusal says = all-first says.0
  first-always (channel_ends.Bad place cause) refusal says = all-first says.0
  first-always (channel_ends.Truncated place) refusal says = all-first says.0
  first-always (channel_ends.NoEnd place) refusal says = all-first says.0
  first-always (channel_ends.AfterEnd place) refusal says = all-first says.0

  -- a row of lists of which the first were closed
  part-at : (rows : List (List Parcel)) (k s : ℕ) → s < length rows
      → (slice_index_or (map closed (take k rows) ++ drop k rows) s [] ≡ slice_index_or rows s [])
      ⊎ (slice_index_or (map closed (take k rows) ++ drop k rows) s [] ≡ closed (slice_index_or rows s []))
  part-at [] k s inside = absurd (omega (arith, inside))
  part-at (row ∷ rows) zero s inside = inl refl
  part-at (row ∷ rows) (suc k) zero inside = inr refl
  part-at (row ∷ rows) (suc k) (suc s) inside = part-at rows k s (omega (arith, inside))

  inside : (s : ℕ) → s < stream_count mid → s < length (all_given mid)
  inside s low = subst (λ (n : ℕ). s < n) (sym (length-map mid.feeds.items feed_given)) low

  -- the mark was given in part
  pub late : (answer : ChannelEnd) (refusal : Option ChannelRefusal) → Says answer refusal (HandsOn before mid packets) (HandsOnFirst before mid packets)
      → ClosedInPart (all_given mid) (all_given now) → HandsOnInPart before now packets
  late answer refusal says part =
      let first = first-always answer refusal says in
      record {
        handed = first.handed;
        others = first.others;
        first = first.first;
        streams = count ∙ first.on.streams;
        given = λ s low. either s (first.on.given s low) (part-at (all_given mid) part.count s (inside s (omega (arith, low, first.on.streams))));
      } where
        either : (s : ℕ) → given mid s ≡ given before s ++ parcels_of s (first-always answer refusal says).handed
            → (slice_index_or (map closed (take part.count (all_given mid)) ++ drop part.count (all_given mid)) s [] ≡ given mid s)
            ⊎ (slice_index_or (map closed (take part.count (all_given mid)) ++ drop part.count (all_given mid)) s [] ≡ closed (given mid s))
            → (given now s ≡ given before s ++ parcels_of s (first-always answer refusal says).handed)
            ⊎ (given now s ≡ closed (given before s ++ parcels_of s (first-always answer refusal says).handed))
        either s was (inl still) = inl (ap (λ (rows : List (List Parcel)). slice_index_or rows s []) part.first ∙ still ∙ was)
        either s was (inr shut) = inr (ap (λ (rows : List (List Parcel)). slice_index_or rows s []) part.first ∙ shut ∙ ap closed was)

  -- the mark was given to all
  module _ (all : all_given now ≡ map closed (all_given mid)) where
    closed-at : (s : ℕ) → s < stream_count mid → given now s ≡ closed (given mid s)
    closed-at s low =
        ap (λ (rows : List (List Parcel)). slice_index_or rows s []) all
        ∙ get_or-map closed (all_given mid) s [] [] (inside s low)

    closes : HandsOn before mid packets → Closes before now packets
    closes on = record {
      streams = count ∙ on.streams;
      given = λ s low. closed-at s (omega (arith, low, on.streams)) ∙ ap closed (on.given s low);
    }

    closes-part : HandsOnFirst before mid packets → HandsOnInPart before now packets
    closes-part first = record {
      handed = first.handed;
      others = first.others;
      first = first.first;
      streams = count ∙ first.on.streams;
      given = λ s low. inr (closed-at s (omega (arith, low, first.on.streams)) ∙ ap closed (first.on.given s low));
    }

    pub closes-says : (answer : ChannelEnd) (refusal : Option ChannelRefusal) → Says answer refusal (HandsOn before mid packets) (HandsOnFirst before mid packets)
        → Says answer refusal (Closes before now packets) (HandsOnInPart before now packets)
    closes-says channel_ends.Fault refusal says = closes says
    closes-says channel_ends.NoMemory refusal says = closes-part says
    closes-says channel_ends.Ended refusal says = (closes says.0, says.1)
    closes-says channel_ends.TooLong refusal says = (closes says.0, says.1)
    closes-says (channel_ends.Aborted place) refusal says = (closes says.0, says.1)
    closes-says (channel_ends.Bad place cause) refusal says = (closes says.0, says.1)
    closes-says (channel_ends.Truncated place) refusal says = (closes says.0, says.1)
    closes-says (channel_ends.NoEnd place) refusal says = (closes says.0, says.1)
    closes-says (channel_ends.AfterEnd place) refusal says = (closes says.0, says.1)

-- a receipt of nothing, where there was room, is the end
pub ended-so : (b : Bool) (n room : ℕ) → n ≡ 0 → 0 < room → (b || (n == 0 && nat_lt 0 room)) ≡ true
ended-so true n room none some = refl
ended-so false n room none some = rw (eq-eqb n 0 none, lt-ltb 0 room some) refl
