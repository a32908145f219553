-- The verdict on what came of channels that were read.
use Rattle.std.proofs.Common.{◌≡◌, ◌∙◌, refl, sym, ap, ap₂, subst, ℕ, zero, suc, ◌+◌, ◌<◌, ◌≤◌, true, List, [], ◌∷◌, ◌++◌, length, map, slice_index_or, arith, ⊎_elim}
use Rattle.std.proofs.lemmas.Bool.{cases_lt}
use Rattle.std.proofs.lemmas.List.{get_or_past, length-map}
use Rattle.vfm_types.specs.declared.desc.Desc.{Desc}
use Rattle.vfm_types.specs.Desc.{device_count}
use Rattle.vfm_packet.specs.declared.answer.Expect.{Expect}
use Rattle.vfm_packet.specs.Reading.{reading}
use Rattle.vfm_streams.specs.Whole.{stream_packets}
use Rattle.vfm_streams.specs.Verdict.{Expects}
use Rattle.vfm_mesh.specs.declared.parcel.Parcel.{Parcel}
use Rattle.vfm_mesh.specs.declared.fan.Fan.{Fan}
use Rattle.vfm_mesh.specs.declared.rest.Rest.{Rest}
use Rattle.vfm_mesh.specs.declared.funnel.Funnel.{Funnel}
use Rattle.vfm_mesh.specs.Rows.{all_taken, fan_rings, funnel_rings}
use Rattle.vfm_mesh.specs.Meshes.{channels_left, left, given_at, taken_at, AreMesh}
use Rattle.vfm_recv.specs.declared.channel_end.ChannelEnd.{ChannelEnd}
use Rattle.vfm_recv.specs.declared.channel_end.ChannelEnd.TheVariants as channel_ends
use Rattle.vfm_recv.specs.Pumped.{end_of}
use Rattle.vfm_packet.specs.Packet.{Packet}
use Rattle.vfm_intake_laws.specs.Arrivals.{of_channel, packets_at, CameFrom}
use Rattle.vfm_intake.specs.declared.intake.Intake.{Intake}
use Rattle.vfm_intake.specs.Verdicts.{HasTakenIn}
use Rattle.vfm_stream_work.specs.Parcels.{packets_in, untagged}
use Rattle.vfm_stream_work.proofs.Tagged.{untagged-both, channel-both, packets-both}
use Rattle.vfm_dest.specs.Drained.{with_all, HasLoaded, HasDrained}
use Rattle.vfm_dest.specs.Heards.{Told, Brings, channels_of, AreRead}
use Rattle.std.specs.Prelude.{Result, Ok, Err, IfOk, IfErr, OnOk, is_err, false, Vec}
use Rattle.std.specs.declared.alloc.Global.{Global}
use Rattle.vfm_plain.specs.declared.part.Part.{Part}
use Rattle.vfm_streams.specs.Verdict.{Verdict, Refuses, Loads}
use Rattle.vfm_types.specs.declared.fault.Refusal.{Refusal}
use Rattle.vfm_intake.specs.Parts.{AreParts, machine_in}
use Rattle.vfm_intake.specs.Verdicts.{Answers}
use Rattle.vfm_dest.specs.StagedCores.{StagedState}
use Rattle.vfm_dest.specs.declared.judging.StageFault.{StageFault}
use Rattle.vfm_dest.specs.declared.judging.StageFault.TheVariants as faults
use Rattle.vfm_dest.specs.Stages.{is_told, AllTold, IsStagedFrom, StagesBy}

-- an answer that is told says what came
told-brings : (answer : ChannelEnd) (e : Expect) (came : List ℕ) (given : ℕ → List Parcel) → is_told answer ≡ true → Brings answer e came given
    → (answer ≡ end_of (reading e came).refusal) × ((s : ℕ) → s < e.streams → packets_in (given s) ≡ stream_packets s (reading e came).packets)
told-brings channel_ends.Fault e came given told brings = absurd cc
told-brings channel_ends.NoMemory e came given told brings = absurd cc
told-brings channel_ends.Ended e came given told brings = brings
told-brings (channel_ends.Aborted place) e came given told brings = brings
told-brings (channel_ends.Bad place cause) e came given told brings = brings
told-brings (channel_ends.Truncated place) e came given told brings = brings
told-brings (channel_ends.NoEnd place) e came given told brings = brings
told-brings (channel_ends.AfterEnd place) e came given told brings = brings
told-brings channel_ends.TooLong e came given told brings = brings

-- answers that are those about what came, one by one
ends-same : (e : Expect) (ends : List ChannelEnd) (came : List (List ℕ)) → length came ≡ length ends
    → ((k : ℕ) → k < length ends → slice_index_or ends k channel_ends.Ended ≡ end_of (reading e (slice_index_or came k [])).refusal)
    → ends ≡ map (λ r. end_of r.refusal) (map (reading e) came)
ends-same e [] [] count each = refl
ends-same e [] (c ∷ came) count each = absurd (omega (arith, count))
ends-same e (x ∷ ends) [] count each = absurd (omega (arith, count))
ends-same e (x ∷ ends) (c ∷ came) count each =
    ap (λ (y : ChannelEnd). y ∷ ends) (each 0 (omega arith))
    ∙ ap (λ (ys : List ChannelEnd). end_of (reading e c).refusal ∷ ys)
    (ends-same e ends came (omega (arith, count)) (λ k low. each (suc k) (omega (arith, low))))

-- what channel k brought
brought-at : (e : Expect) (came : List (List ℕ)) (k : ℕ) → k < length came → packets_at (map (reading e) came) k ≡ (reading e (slice_index_or came k [])).packets
brought-at e [] k low = absurd (omega (arith, low))
brought-at e (c ∷ came) zero low = refl
brought-at e (c ∷ came) (suc k) low = brought-at e came k (omega (arith, low))

none-brought : (e : Expect) (came : List (List ℕ)) (k : ℕ) → length came ≤ k → packets_at (map (reading e) came) k ≡ []
none-brought e [] k high = refl
none-brought e (c ∷ came) zero high = absurd (omega (arith, high))
none-brought e (c ∷ came) (suc k) high = none-brought e came k (omega (arith, high))

-- a funnel has as many rows of what was taken as it has rings
rows-as-rings : (funnels : List Funnel) (s : ℕ) → length (slice_index_or (map all_taken funnels) s []) ≡ length (slice_index_or (map funnel_rings funnels) s [])
rows-as-rings [] s = refl
rows-as-rings (funnel ∷ funnels) zero = rw length-map (sym (rw length-map refl))
rows-as-rings (funnel ∷ funnels) (suc s) = rows-as-rings funnels s

-- of a channel that a mesh hasn't nothing was taken
none-outside : (fans : List Fan) (funnels : List Funnel) (k s : ℕ) → AreMesh fans funnels → s < length funnels → length fans ≤ k → taken_at funnels k s ≡ []
none-outside fans funnels k s mesh inside high =
    get_or_past (slice_index_or (map all_taken funnels) s []) k []
    (omega (arith, rows-as-rings funnels s, (mesh.each s (omega (arith, inside, length-map funnels funnel_rings))).channels, length-map fans fan_rings, high))

module _ (D : Desc) (e : Expect) (before links : List Told) (fans : List Fan) (funnels : List Funnel) (ends : List ChannelEnd) (rest : Rest)
    (loaded_to intake : Intake)
    (expects : Expects D e) (many : length before ≡ length fans) (same_ends : length ends ≡ length fans)
    (are : AreRead e before (channels_of links fans ends)) (told : AllTold ends)
    (mesh : AreMesh fans funnels) (streams : length funnels ≡ device_count D + 1) (channels : channels_left rest ≡ length fans)
    (lefts : (k s : ℕ) → k < length fans → s < length funnels → taken_at funnels k s ++ left rest k s ≡ given_at fans k s)
    (loaded : HasLoaded D funnels loaded_to.streams.items) (drained : HasDrained D rest loaded_to intake) where
  says : (k : ℕ) → k < length fans
      → (slice_index_or ends k channel_ends.Ended ≡ end_of (reading e (slice_index_or are.came k [])).refusal)
      × ((s : ℕ) → s < e.streams → packets_in (given_at fans k s) ≡ stream_packets s (reading e (slice_index_or are.came k [])).packets)
  says k low =
      told-brings (slice_index_or ends k channel_ends.Ended) e (slice_index_or are.came k []) (given_at fans k)
      (told k (omega (arith, low, same_ends))) (are.each k (omega (arith, low, many))).brings

  abbrev came : ℕ → List Packet
  came = with_all (λ s. untagged (loaded.tagged s)) drained.tagged

  inside-of : (s k : ℕ) → s ≤ device_count D → k < length fans
      → of_channel k (loaded.tagged s) ++ of_channel k (drained.tagged s) ≡ stream_packets s (packets_at (map (reading e) are.came) k)
  inside-of s k low inside =
      ap₂ (λ (a b : List Packet). a ++ b) (loaded.each k s low) ((drained.each s low).each k (omega (arith, inside, channels)))
      ∙ sym (packets-both (taken_at funnels k s) (left rest k s))
      ∙ ap packets_in (lefts k s inside (omega (arith, low, streams)))
      ∙ (says k inside).1 s (omega (arith, low, expects.streams))
      ∙ ap (stream_packets s) (sym (brought-at e are.came k (omega (arith, inside, many, are.count))))

  outside-of : (s k : ℕ) → s ≤ device_count D → length fans ≤ k
      → of_channel k (loaded.tagged s) ++ of_channel k (drained.tagged s) ≡ stream_packets s (packets_at (map (reading e) are.came) k)
  outside-of s k low outside =
      ap₂ (λ (a b : List Packet). a ++ b)
      (loaded.each k s low ∙ ap packets_in (none-outside fans funnels k s mesh (omega (arith, low, streams)) outside))
      ((drained.each s low).none k (omega (arith, outside, channels)))
      ∙ ap (stream_packets s) (sym (none-brought e are.came k (omega (arith, outside, many, are.count))))

  from : (s : ℕ) → s ≤ device_count D → CameFrom s (map (reading e) are.came) (came s)
  from s low = record {
    tagged = loaded.tagged s ++ drained.tagged s;
    packets_are = untagged-both (loaded.tagged s) (drained.tagged s);
    each = λ k.
        channel-both k (loaded.tagged s) (drained.tagged s)
        ∙ ⊎_elim (λ (inside : k < length fans). inside-of s k low inside) (λ (outside : length fans ≤ k). outside-of s k low outside)
        (cases_lt k (length fans));
  }

  pub has-taken : HasTakenIn intake D ends (map (reading e) are.came)
  has-taken = record {
    ends_are = ends-same e ends are.came (omega (arith, are.count, many, same_ends)) (λ k low. (says k (omega (arith, low, same_ends))).0);
    came = came;
    taken = drained.taken (λ s. untagged (loaded.tagged s)) loaded.came;
    from = from;
  }

-- ---- the answers

pub ok-of : {X E P : Type 0} (r : Result X E) → is_err r ≡ false → OnOk r P → P
ok-of (Ok x) is p = p
ok-of (Err e) is p = absurd cc

pub answers-parts : (D : Desc) (v : Verdict) (parts : Vec Part Global) → Answers D v (Ok parts) → AreParts D parts.items
answers-parts D (Refuses r) parts answers = absurd cc
answers-parts D (Loads m) parts answers = answers.0

pub answers-loads : (D : Desc) (v : Verdict) (parts : Vec Part Global) → Answers D v (Ok parts) → v ≡ Loads (machine_in parts.items)
answers-loads D (Refuses r) parts answers = absurd cc
answers-loads D (Loads m) parts answers = ap Loads (sym answers.1)

pub answers-refuses : (D : Desc) (v : Verdict) (r : Refusal) → Answers D v (Err r) → v ≡ Refuses r
answers-refuses D (Refuses q) r answers = cc
answers-refuses D (Loads m) r answers = absurd answers

pub stages-ok : (D : Desc) (ends : List ChannelEnd) (v : Verdict) (parts : List Part) (r : Result StagedState StageFault) → AllTold ends → AreParts D parts
    → IfOk r (λ s. IsStagedFrom s D parts) → IfErr r (λ f. f ≡ faults.NoMemory) → v ≡ Loads (machine_in parts) → StagesBy D ends v r
stages-ok D ends v parts (Ok s) told are ok fault loads = (told, (parts, are, ok, loads))
stages-ok D ends v parts (Err f) told are ok fault loads = subst (λ (x : StageFault). StagesBy D ends v (Err x)) (sym fault) tt
