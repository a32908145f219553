-- The workers of all streams, before they work and after.
use Rattle.std.proofs.Common.{◌≡◌, ◌∙◌, refl, sym, ap, subst, ℕ, ◌+◌, ◌<◌, false, List, [], ◌∷◌, ◌++◌, length, map, slice_index_or, arith}
use Rattle.std.proofs.lemmas.List.{length-map}
use Rattle.std.specs.Prelude.{All}
use Rattle.vfm_types.specs.declared.desc.Desc.{Desc}
use Rattle.vfm_types.specs.Desc.{device_count}
use Rattle.vfm_packet.specs.Packet.{Packet}
use Rattle.vfm_mesh.specs.declared.parcel.Parcel.{Parcel}
use Rattle.vfm_mesh.specs.declared.fan.Fan.{Fan}
use Rattle.vfm_mesh.specs.declared.funnel.Funnel.{Funnel}
use Rattle.vfm_mesh.specs.Feeds.{RingId}
use Rattle.vfm_mesh.specs.Rows.{all_taken, fan_rings, funnel_rings, taken}
use Rattle.vfm_mesh.specs.Meshes.{taken_at, AreMesh, AreJoined}
use Rattle.vfm_intake_laws.specs.Arrivals.{of_channel}
use Rattle.vfm_intake.specs.declared.stream.StreamIntake.{StreamIntake}
use Rattle.vfm_intake.specs.Streams.{stream_in, IsStreamOf, StandsAfter}
use Rattle.vfm_intake.specs.Intakes.{AreStreamsOf, StandAfter}
use Rattle.vfm_stream_work.specs.declared.worker.StreamWorker.{StreamWorker}
use Rattle.vfm_stream_work.specs.Parcels.{packets_in, untagged}
use Rattle.vfm_stream_work.specs.Workers.{funnel_of, intake_of, is_short, HasWorked, Passes}
use Rattle.vfm_dest.specs.Drained.{HasLoaded}
use Rattle.vfm_dest.specs.Staging.{AreHired}
use Rattle.vfm_dest.proofs.Indexed.{read-once, read-twice, same-read, each-read, One, Chosen, chosen}

-- workers over these funnels and these intakes
pub are-hired : (D : Desc) (workers : List StreamWorker) (funnels : List Funnel) (intakes : List StreamIntake)
    → map funnel_of workers ≡ funnels → map intake_of workers ≡ intakes → length funnels ≡ device_count D + 1
    → AreStreamsOf D intakes → StandAfter D (λ s. []) intakes → ((k s : ℕ) → taken_at funnels k s ≡ []) → All (λ w. is_short w ≡ false) workers
    → AreHired D workers
are-hired D workers funnels intakes funnels_are intakes_are count made nothing taken short = record {
  streams = sym (length-map workers funnel_of) ∙ ap (λ (l : List Funnel). length l) funnels_are ∙ count;
  made = subst (AreStreamsOf D) (sym intakes_are) made;
  nothing = subst (StandAfter D (λ s. [])) (sym intakes_are) nothing;
  taken = λ k s. ap (λ (l : List Funnel). taken_at l k s) funnels_are ∙ taken k s;
  short = short;
}

module _ (D : Desc) (workers : List StreamWorker) (hired : AreHired D workers) where
  made-at : (s : ℕ) (d : StreamWorker) → s < length workers → IsStreamOf (intake_of (slice_index_or workers s d)) D s
  made-at s d low =
      subst (λ (x : StreamIntake). IsStreamOf x D s) (read-once intake_of workers s d (intake_of d) low)
      (hired.made s (intake_of d) (subst (λ (n : ℕ). s < n) (sym (length-map workers intake_of)) low))

  number-at : (s : ℕ) (d : StreamWorker) → s < length workers → stream_in (intake_of (slice_index_or workers s d)) ≡ s
  number-at s d low = (made-at s d low).fed.stream

  -- each is of its stream
  pub each-made : All (λ w. IsStreamOf (intake_of w) D (stream_in (intake_of w))) workers
  each-made s d low =
      subst (λ (n : ℕ). IsStreamOf (intake_of (slice_index_or workers s d)) D n) (sym (number-at s d low)) (made-at s d low)

  stood-at : (s : ℕ) (d : StreamWorker) → s < length workers → StandsAfter (intake_of (slice_index_or workers s d)) D s []
  stood-at s d low =
      subst (λ (x : StreamIntake). StandsAfter x D s []) (read-once intake_of workers s d (intake_of d) low)
      (hired.nothing s (intake_of d) (subst (λ (n : ℕ). s < n) (sym (length-map workers intake_of)) low))

  untaken-at : (k s : ℕ) (d : StreamWorker) → s < length workers → taken (funnel_of (slice_index_or workers s d)) k ≡ []
  untaken-at k s d low =
      ap (λ (row : List (List Parcel)). slice_index_or row k []) (sym (read-twice funnel_of all_taken workers s d [] low)) ∙ hired.taken k s

  module _ (now : List StreamWorker) (same : length now ≡ length workers)
      (worked : (s : ℕ) (d : StreamWorker) → s < length workers → HasWorked D (slice_index_or workers s d) (slice_index_or now s d)) where
    -- they are of the same streams
    pub still-made : AreStreamsOf D (map intake_of now)
    still-made =
        each-read intake_of (λ s x. IsStreamOf x D s) now (λ s d low.
        let inside : s < length workers = omega (arith, low, same) in
        subst (λ (n : ℕ). IsStreamOf (intake_of (slice_index_or now s d)) D n) (number-at s d inside) (worked s d inside).made)

    pub still-many : length (map intake_of now) ≡ device_count D + 1
    still-many = length-map now intake_of ∙ same ∙ hired.streams

    pub funnels-many : length (map funnel_of now) ≡ device_count D + 1
    funnels-many = length-map now funnel_of ∙ same ∙ hired.streams

    -- over the same rings
    rings-same : map funnel_rings (map funnel_of now) ≡ map funnel_rings (map funnel_of workers)
    rings-same =
        sym (twice now) ∙ same-read (λ w. funnel_rings (funnel_of w)) workers now same (λ s d low. (worked s d low).rings) ∙ twice workers
      where
        twice : (xs : List StreamWorker) → map (λ w. funnel_rings (funnel_of w)) xs ≡ map funnel_rings (map funnel_of xs)
        twice [] = refl
        twice (x ∷ xs) = ap (λ (l : List (List RingId)). funnel_rings (funnel_of x) ∷ l) (twice xs)

    pub still-mesh : (fans fans_now : List Fan) → AreMesh fans (map funnel_of workers) → map fan_rings fans_now ≡ map fan_rings fans
        → AreMesh fans_now (map funnel_of now)
    still-mesh fans fans_now mesh rings =
        subst (λ (l : List (List RingId)). AreJoined (map fan_rings fans_now) l) (sym rings-same)
        (subst (λ (l : List (List RingId)). AreJoined l (map funnel_rings (map funnel_of workers))) (sym rings) mesh)

    -- what one took: its packets, those of each channel in its order, came to the intake
    abbrev Took : ℕ → StreamWorker → StreamWorker → List (ℕ × Packet) → Type 0
    Took s before after tagged =
        StandsAfter (intake_of after) D s (untagged tagged) × ((k : ℕ) → of_channel k tagged ≡ packets_in (taken (funnel_of after) k))

    module _ (sound : All (λ w. is_short w ≡ false) now) where
      took : (s : ℕ) (d : StreamWorker) → s < length workers → One Took s (slice_index_or workers s d) (slice_index_or now s d)
      took s d low =
          let passes : Passes D (slice_index_or workers s d) (slice_index_or now s d) =
          (worked s d low).passes (sound s d (omega (arith, low, same))) (hired.short s d low) in
          record {
            value = passes.tagged;
            is = (
              subst (λ (n : ℕ). StandsAfter (intake_of (slice_index_or now s d)) D n (untagged passes.tagged)) (number-at s d low)
                  (passes.come []
                  (subst (λ (n : ℕ). StandsAfter (intake_of (slice_index_or workers s d)) D n []) (sym (number-at s d low)) (stood-at s d low))),
              λ k.
                  ap (λ (l : List Parcel). packets_in l ++ of_channel k passes.tagged) (sym (untaken-at k s d low))
                  ∙ sym (passes.each k),
            );
          }

      all : Chosen Took workers now
      all = chosen Took workers now same took

      -- what they took came
      pub has-loaded : HasLoaded D (map funnel_of now) (map intake_of now)
      has-loaded =
          let values = all.values in
          let each = all.each in
          record {
            tagged = λ s. slice_index_or values s [];
            came =
                each-read intake_of (λ s x. StandsAfter x D s (untagged (slice_index_or values s []))) now
                (λ s d low. (each s d [] (omega (arith, low, same))).0);
            each = λ k s low.
                each-read all_taken (λ t row. of_channel k (slice_index_or values t []) ≡ packets_in (slice_index_or row k [])) (map funnel_of now)
                (each-read funnel_of (λ t f. of_channel k (slice_index_or values t []) ≡ packets_in (taken f k)) now
                (λ t d inside. (each t d [] (omega (arith, inside, same))).1 k))
                s [] (omega (arith, low, length-map (map funnel_of now) all_taken, funnels-many));
          }
