-- The workers of all channels, before they work and after.
use Rattle.std.proofs.Common.{◌≡◌, ◌∙◌, refl, sym, ap, subst, ℕ, zero, suc, ◌<◌, List, [], ◌∷◌, length, map, slice_index_or, arith}
use Rattle.std.proofs.lemmas.List.{length-map}
use Rattle.std.specs.Prelude.{All}
use Rattle.vfm_packet.specs.declared.answer.Expect.{Expect}
use Rattle.vfm_mesh.specs.declared.parcel.Parcel.{Parcel}
use Rattle.vfm_mesh.specs.declared.fan.Fan.{Fan}
use Rattle.vfm_mesh.specs.Feeds.{RingId, feed_ring}
use Rattle.vfm_mesh.specs.Rows.{all_given, fan_rings, given}
use Rattle.vfm_mesh.specs.Meshes.{given_at}
use Rattle.vfm_dest.specs.Heards.{Told, untold, OutWords, SendAsBefore, HaveStreams, Channels, channel_at, channel_of, channels_of, IsRead, WasRead, AreRead}
use Rattle.vfm_dest.specs.declared.channel_worker.ChannelWorker.{ChannelWorker}
use Rattle.vfm_dest.specs.ChannelWorkers.{link_in, fan_in, end_in, expect_in, IsFresh, HasHeard}
use Rattle.vfm_dest.proofs.Indexed.{read-twice, same-read}

module _ {L : Type 0} where
  -- nothing was given to fans with all streams
  pub each-fresh : (workers : List (ChannelWorker L)) (fans : List Fan) (e : Expect) → map fan_in workers ≡ fans → All (λ w. expect_in w ≡ e) workers
      → HaveStreams fans e.streams → ((k s : ℕ) → given_at fans k s ≡ []) → All (λ w. IsFresh w) workers
  each-fresh workers fans e fans_are expects streams nothing k d low = record {
    streams =
        sym (length-map (fan_in (slice_index_or workers k d)).feeds.items feed_ring)
        ∙ ap (λ (l : List RingId). length l) (sym (read-twice fan_in fan_rings workers k d [] low))
        ∙ ap (λ (l : List Fan). length (slice_index_or (map fan_rings l) k [])) fans_are
        ∙ streams k (omega (arith, low, length-map workers fan_in, ap (λ (l : List Fan). length l) fans_are))
        ∙ ap (λ (x : Expect). x.streams) (sym (expects k d low));
    nothing = λ s.
        ap (λ (row : List (List Parcel)). slice_index_or row s []) (sym (read-twice fan_in all_given workers k d [] low))
        ∙ ap (λ (l : List Fan). given_at l k s) fans_are
        ∙ nothing k s;
  }

  module _ (tell : L → Told) (words : OutWords L) where
    abbrev HaveHeard : List (ChannelWorker L) → List (ChannelWorker L) → Type 0
    HaveHeard workers now =
        (k : ℕ) (d : ChannelWorker L) → k < length workers → HasHeard tell words (slice_index_or workers k d) (slice_index_or now k d)

    -- what is known of the channels of workers
    abbrev channels-in : List (ChannelWorker L) → Channels
    channels-in now = channels_of (map tell (map link_in now)) (map fan_in now) (map end_in now)

    abbrev told-in : List (ChannelWorker L) → List Told
    told-in workers = map tell (map link_in workers)

    -- one channel more at the start
    read-first : (e : Expect) (x y : ChannelWorker L) (workers now : List (ChannelWorker L))
        → WasRead e (tell (link_in x)) (channel_of (tell (link_in y)) (given y.fan) y.end) → AreRead e (told-in workers) (channels-in now)
        → AreRead e (told-in (x ∷ workers)) (channels-in (y ∷ now))
    read-first e x y workers now one rest = record {
      came = one.came ∷ rest.came;
      count = ap suc rest.count;
      links = ap suc rest.links;
      answers = ap suc rest.answers;
      each = both;
    }
      where
        both : (k : ℕ) → k < length (told-in (x ∷ workers))
            → IsRead e (slice_index_or (told-in (x ∷ workers)) k untold) (channel_at (channels-in (y ∷ now)) k) (slice_index_or (one.came ∷ rest.came) k [])
        both zero low = one.is
        both (suc k) low = rest.each k (omega (arith, low))

    -- the channels were read
    pub have-read : (e : Expect) (workers now : List (ChannelWorker L)) → length now ≡ length workers → HaveHeard workers now
        → All (λ w. expect_in w ≡ e) workers → AreRead e (told-in workers) (channels-in now)
    have-read e [] [] same heard expects = record { came = []; count = refl; links = refl; answers = refl; each = λ k low. absurd (omega (arith, low)) }
    have-read e [] (y ∷ now) same heard expects = absurd (omega (arith, same))
    have-read e (x ∷ workers) [] same heard expects = absurd (omega (arith, same))
    have-read e (x ∷ workers) (y ∷ now) same heard expects =
        read-first e x y workers now
        (subst (λ (z : Expect). WasRead z (tell (link_in x)) (channel_of (tell (link_in y)) (given y.fan) y.end)) (expects 0 x (omega arith))
        (heard 0 x (omega arith)).read)
        (have-read e workers now (omega (arith, same)) (λ k d low. heard (suc k) d (omega (arith, low)))
        (λ k d low. expects (suc k) d (omega (arith, low))))

    -- over the same rings
    pub fan-rings : (workers now : List (ChannelWorker L)) → length now ≡ length workers → HaveHeard workers now
        → map fan_rings (map fan_in now) ≡ map fan_rings (map fan_in workers)
    fan-rings workers now same heard =
        sym (twice now) ∙ same-read (λ w. fan_rings (fan_in w)) workers now same (λ k d low. (heard k d low).rings) ∙ twice workers
      where
        twice : (xs : List (ChannelWorker L)) → map (λ w. fan_rings (fan_in w)) xs ≡ map fan_rings (map fan_in xs)
        twice [] = refl
        twice (x ∷ xs) = ap (λ (l : List (List RingId)). fan_rings (fan_in x) ∷ l) (twice xs)

    words-twice : {B : Type 0} (word : L → B) (xs : List (ChannelWorker L)) → map (λ w. word (link_in w)) xs ≡ map word (map link_in xs)
    words-twice word [] = refl
    words-twice word (x ∷ xs) = ap (λ (l : List _). word (link_in x) ∷ l) (words-twice word xs)

    -- of what goes out they tell what they told before
    pub send-as-before : (workers now : List (ChannelWorker L)) → length now ≡ length workers → HaveHeard workers now
        → SendAsBefore words (map link_in workers) (map link_in now)
    send-as-before workers now same heard = record {
      count = length-map now link_in ∙ same ∙ sym (length-map workers link_in);
      sent =
          sym (words-twice words.sent now) ∙ same-read (λ w. words.sent (link_in w)) workers now same (λ k d low. (heard k d low).sent)
          ∙ words-twice words.sent workers;
      finished =
          sym (words-twice words.finished now)
          ∙ same-read (λ w. words.finished (link_in w)) workers now same (λ k d low. (heard k d low).finished)
          ∙ words-twice words.finished workers;
      failed_out =
          sym (words-twice words.failed_out now)
          ∙ same-read (λ w. words.failed_out (link_in w)) workers now same (λ k d low. (heard k d low).failed_out)
          ∙ words-twice words.failed_out workers;
    }
