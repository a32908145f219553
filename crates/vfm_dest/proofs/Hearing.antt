-- What a reader says, in the words of a channel that was read.
use Rattle.std.proofs.Common.{◌≡◌, ◌∙◌, refl, sym, ap, subst, ℕ, zero, suc, ◌<◌, List, [], ◌∷◌, ◌++◌, length, map, slice_index_or, arith, ⊎_elim}
use Rattle.std.proofs.lemmas.Bool.{cases_eq}
use Rattle.std.proofs.lemmas.List.{length-append}
use Rattle.vfm_packet.specs.declared.answer.Expect.{Expect}
use Rattle.vfm_packet.specs.Packet.{Packet}
use Rattle.vfm_packet.specs.Reading.{reading}
use Rattle.vfm_streams.specs.Whole.{stream_packets}
use Rattle.vfm_mesh.specs.declared.parcel.Parcel.{Parcel}
use Rattle.vfm_mesh.specs.declared.fan.Fan.{Fan}
use Rattle.vfm_mesh.specs.Rows.{stream_count, given, closed}
use Rattle.vfm_recv.specs.declared.channel_end.ChannelEnd.{ChannelEnd}
use Rattle.vfm_recv.specs.declared.channel_end.ChannelEnd.TheVariants as channel_ends
use Rattle.vfm_recv.specs.Handed.{parcel_of, parcels_of, Closes}
use Rattle.vfm_recv.specs.Pumped.{Says, Seen, Pumped}
use Rattle.vfm_stream_work.specs.Parcels.{packets_in}
use Rattle.vfm_mesh.specs.Meshes.{given_at}
use Rattle.vfm_intake.proofs.Elements.{behind}
use Rattle.vfm_dest.specs.Heards.{Told, untold, Brings, channel_of, IsRead, WasRead, AreRead, channels_of, channel_at}
use Rattle.vfm_dest.proofs.Weights.{below-of}

-- the packets among the parcels of packets, with a mark behind them, are these packets
packets-again : (packets : List Packet) → packets_in (closed (map parcel_of packets)) ≡ packets
packets-again [] = refl
packets-again (p ∷ packets) = ap (λ (l : List Packet). p ∷ l) (packets-again packets)

module _ (e : Expect) (before now : Fan) (came : List ℕ) (streams : stream_count before ≡ e.streams) (nothing : (s : ℕ) → given before s ≡ []) where
  handed : Closes before now (reading e came).packets
      → (s : ℕ) → s < e.streams → packets_in (given now s) ≡ stream_packets s (reading e came).packets
  handed closes s low =
      ap packets_in
      (closes.given s (subst (λ (n : ℕ). s < n) (sym streams) low)
      ∙ ap (λ (l : List Parcel). closed (l ++ parcels_of s (reading e came).packets)) (nothing s))
      ∙ packets-again (stream_packets s (reading e came).packets)

  brought-by : (part : Type 0) (answer : ChannelEnd) → Says answer (reading e came).refusal (Closes before now (reading e came).packets) part
      → Brings answer e came (given now)
  brought-by part channel_ends.Fault says = tt
  brought-by part channel_ends.NoMemory says = tt
  brought-by part channel_ends.Ended says = (says.1, handed says.0)
  brought-by part (channel_ends.Aborted place) says = (says.1, handed says.0)
  brought-by part (channel_ends.Bad place cause) says = (says.1, handed says.0)
  brought-by part (channel_ends.Truncated place) says = (says.1, handed says.0)
  brought-by part (channel_ends.NoEnd place) says = (says.1, handed says.0)
  brought-by part (channel_ends.AfterEnd place) says = (says.1, handed says.0)
  brought-by part channel_ends.TooLong says = (says.1, handed says.0)

-- what a link and a fan show, without the fan
abbrev pub told_of : Seen → Told
told_of seen = record { received = seen.received; ended = seen.ended; failed_in = seen.failed_in }

pub was-read : (e : Expect) (before now : Seen) (answer : ChannelEnd) → Pumped e before now answer → stream_count before.fan ≡ e.streams
    → ((s : ℕ) → given before.fan s ≡ []) → WasRead e (told_of before) (channel_of (told_of now) (given now.fan) answer)
was-read e before now answer pumped streams nothing = record {
  came = pumped.came;
  is = record {
    received = pumped.received;
    brings = brought-by e before.fan now.fan pumped.came streams nothing _ answer pumped.says;
    counts = pumped.counts;
    stops = pumped.stops;
  };
}

-- ---- the same of what was given, stream by stream

brings-same : (e : Expect) (came : List ℕ) (f g : ℕ → List Parcel) → ((s : ℕ) → g s ≡ f s) → (answer : ChannelEnd) → Brings answer e came f → Brings answer e came g
brings-same e came f g same channel_ends.Fault brings = tt
brings-same e came f g same channel_ends.NoMemory brings = tt
brings-same e came f g same channel_ends.Ended brings = (brings.0, λ s low. ap packets_in (same s) ∙ brings.1 s low)
brings-same e came f g same (channel_ends.Aborted place) brings = (brings.0, λ s low. ap packets_in (same s) ∙ brings.1 s low)
brings-same e came f g same (channel_ends.Bad place cause) brings = (brings.0, λ s low. ap packets_in (same s) ∙ brings.1 s low)
brings-same e came f g same (channel_ends.Truncated place) brings = (brings.0, λ s low. ap packets_in (same s) ∙ brings.1 s low)
brings-same e came f g same (channel_ends.NoEnd place) brings = (brings.0, λ s low. ap packets_in (same s) ∙ brings.1 s low)
brings-same e came f g same (channel_ends.AfterEnd place) brings = (brings.0, λ s low. ap packets_in (same s) ∙ brings.1 s low)
brings-same e came f g same channel_ends.TooLong brings = (brings.0, λ s low. ap packets_in (same s) ∙ brings.1 s low)

is-read-given : (e : Expect) (before now : Told) (f g : ℕ → List Parcel) (answer : ChannelEnd) (came : List ℕ) → ((s : ℕ) → g s ≡ f s)
    → IsRead e before (channel_of now f answer) came → IsRead e before (channel_of now g answer) came
is-read-given e before now f g answer came same is = record {
  received = is.received;
  brings = brings-same e came f g same answer is.brings;
  counts = is.counts;
  stops = is.stops;
}

pub was-read-same : (e : Expect) (before now : Told) (f g : ℕ → List Parcel) (answer : ChannelEnd) → ((s : ℕ) → g s ≡ f s)
    → WasRead e before (channel_of now f answer) → WasRead e before (channel_of now g answer)
was-read-same e before now f g answer same was = record { came = was.came; is = is-read-given e before now f g answer was.came same was.is }

-- ---- one channel more

in-front : {X : Type 0} (xs : List X) (y d : X) (k : ℕ) → k < length xs → slice_index_or (xs ++ y ∷ []) k d ≡ slice_index_or xs k d
in-front [] y d k low = absurd (omega (arith, low))
in-front (x ∷ xs) y d zero low = refl
in-front (x ∷ xs) y d (suc k) low = in-front xs y d k (omega (arith, low))

behind-at : {X : Type 0} (xs : List X) (y d : X) (n : ℕ) → length xs ≡ n → slice_index_or (xs ++ y ∷ []) n d ≡ y
behind-at xs y d n same = subst (λ (k : ℕ). slice_index_or (xs ++ y ∷ []) k d ≡ y) same (behind xs y [] d)

pub map-more : {X Y : Type 0} (f : X → Y) (xs : List X) (y : X) → map f (xs ++ y ∷ []) ≡ map f xs ++ f y ∷ []
map-more f [] y = refl
map-more f (x ∷ xs) y = ap (λ (l : List _). f x ∷ l) (map-more f xs y)

module _ (e : Expect) (before : List Told) (b : Told) (links : List Told) (l : Told) (fans fans_now : List Fan) (answers : List ChannelEnd) (a : ChannelEnd)
    (are : AreRead e before (channels_of links fans answers)) (was : WasRead e b (channel_of l (given_at fans_now (length before)) a))
    (others : (k s : ℕ) → (k ≡ length before → ⊥) → given_at fans_now k s ≡ given_at fans k s) where
  abbrev IsReadAt : ℕ → Type 0
  IsReadAt k =
      IsRead e (slice_index_or (before ++ b ∷ []) k untold) (channel_at (channels_of (links ++ l ∷ []) fans_now (answers ++ a ∷ [])) k)
      (slice_index_or (are.came ++ was.came ∷ []) k [])

  last : IsReadAt (length before)
  last =
      subst (λ (x : Told). IsRead e x (channel_at (channels_of (links ++ l ∷ []) fans_now (answers ++ a ∷ [])) (length before))
      (slice_index_or (are.came ++ was.came ∷ []) (length before) [])) (sym (behind-at before b untold (length before) refl))
      (subst (λ (x : Told). IsRead e b (channel_of x (given_at fans_now (length before)) (slice_index_or (answers ++ a ∷ []) (length before) channel_ends.Ended))
      (slice_index_or (are.came ++ was.came ∷ []) (length before) [])) (sym (behind-at links l untold (length before) are.links))
      (subst (λ (x : ChannelEnd). IsRead e b (channel_of l (given_at fans_now (length before)) x) (slice_index_or (are.came ++ was.came ∷ []) (length before) []))
      (sym (behind-at answers a channel_ends.Ended (length before) are.answers))
      (subst (λ (x : List ℕ). IsRead e b (channel_of l (given_at fans_now (length before)) a) x)
      (sym (behind-at are.came was.came [] (length before) are.count)) was.is)))

  front : (k : ℕ) → k < length before → IsReadAt k
  front k low =
      subst (λ (x : Told). IsRead e x (channel_at (channels_of (links ++ l ∷ []) fans_now (answers ++ a ∷ [])) k)
      (slice_index_or (are.came ++ was.came ∷ []) k [])) (sym (in-front before b untold k low))
      (subst (λ (x : Told). IsRead e (slice_index_or before k untold) (channel_of x (given_at fans_now k) (slice_index_or (answers ++ a ∷ []) k channel_ends.Ended))
      (slice_index_or (are.came ++ was.came ∷ []) k [])) (sym (in-front links l untold k (omega (arith, low, are.links))))
      (subst (λ (x : ChannelEnd). IsRead e (slice_index_or before k untold) (channel_of (slice_index_or links k untold) (given_at fans_now k) x)
      (slice_index_or (are.came ++ was.came ∷ []) k [])) (sym (in-front answers a channel_ends.Ended k (omega (arith, low, are.answers))))
      (subst (λ (x : List ℕ). IsRead e (slice_index_or before k untold)
      (channel_of (slice_index_or links k untold) (given_at fans_now k) (slice_index_or answers k channel_ends.Ended)) x)
      (sym (in-front are.came was.came [] k (omega (arith, low, are.count))))
      (is-read-given e (slice_index_or before k untold) (slice_index_or links k untold) (given_at fans k) (given_at fans_now k)
      (slice_index_or answers k channel_ends.Ended) (slice_index_or are.came k [])
      (λ s. others k s (λ same. absurd (omega (arith, same, low)))) (are.each k low)))))

  pub more-read : AreRead e (before ++ b ∷ []) (channels_of (links ++ l ∷ []) fans_now (answers ++ a ∷ []))
  more-read = record {
    came = are.came ++ was.came ∷ [];
    count = omega (arith, are.count, length-append are.came (was.came ∷ []), length-append before (b ∷ []));
    links = omega (arith, are.links, length-append links (l ∷ []), length-append before (b ∷ []));
    answers = omega (arith, are.answers, length-append answers (a ∷ []), length-append before (b ∷ []));
    each = λ k low.
        ⊎_elim (λ (same : length before ≡ k). subst IsReadAt same last)
        (λ (away : length before ≡ k → ⊥). front k (below-of (length before) k (omega (arith, low, length-append before (b ∷ []))) away))
        (cases_eq (length before) k);
  }
