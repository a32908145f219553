-- Channels that were read, as what staging answers.
use Rattle.std.proofs.Common.{◌≡◌, ◌∙◌, subst, ℕ, ◌<◌, true, List, [], length, slice_index_or, arith, inl, inr, ⊎_elim, Result, Ok, Err}
use Rattle.std.proofs.lemmas.List.{length-map}
use Rattle.vfm_types.specs.declared.desc.Desc.{Desc}
use Rattle.vfm_outside.specs.Counts.{Rose}
use Rattle.vfm_packet.specs.declared.answer.Expect.{Expect}
use Rattle.vfm_packet.specs.Channel.{channel_limit}
use Rattle.vfm_streams.specs.Verdict.{Expects, verdict}
use Rattle.vfm_mesh.specs.declared.fan.Fan.{Fan}
use Rattle.vfm_mesh.specs.declared.funnel.Funnel.{Funnel}
use Rattle.vfm_mesh.specs.Rows.{fan_rings, funnel_rings}
use Rattle.vfm_mesh.specs.Meshes.{AreMesh}
use Rattle.vfm_recv.specs.declared.channel_end.ChannelEnd.{ChannelEnd}
use Rattle.vfm_recv.specs.declared.channel_end.ChannelEnd.TheVariants as channel_ends
use Rattle.vfm_recv.specs.Pumped.{Counts, Stops}
use Rattle.vfm_dest.specs.StagedCores.{StagedState}
use Rattle.vfm_dest.specs.declared.judging.StageFault.{StageFault}
use Rattle.vfm_dest.specs.declared.judging.StageFault.TheVariants as faults
use Rattle.vfm_dest.specs.Heards.{Told, HaveStreams, HasStopped, channels_of, AreRead}
use Rattle.vfm_dest.specs.Stages.{is_told, StagesBy}
use Rattle.vfm_dest.specs.Staging.{Links, before_at, now_at, HaveBrought, IsReadOut, IsStagedBy}

-- of an answer that is told the link was read out, and its count stands
told-stops : (answer : ChannelEnd) (stopped rose : Type 0) → is_told answer ≡ true → Stops answer stopped rose → stopped
told-stops channel_ends.Fault stopped rose told stops = absurd cc
told-stops channel_ends.NoMemory stopped rose told stops = absurd cc
told-stops channel_ends.Ended stopped rose told stops = stops
told-stops (channel_ends.Aborted place) stopped rose told stops = stops
told-stops (channel_ends.Bad place cause) stopped rose told stops = stops
told-stops (channel_ends.Truncated place) stopped rose told stops = stops
told-stops (channel_ends.NoEnd place) stopped rose told stops = stops
told-stops (channel_ends.AfterEnd place) stopped rose told stops = stops
told-stops channel_ends.TooLong stopped rose told stops = stops

told-counts : (answer : ChannelEnd) (before now : ℕ) → is_told answer ≡ true → Counts answer before now → now ≡ before
told-counts channel_ends.Fault before now told counts = absurd cc
told-counts channel_ends.NoMemory before now told counts = absurd cc
told-counts channel_ends.Ended before now told counts = counts
told-counts (channel_ends.Aborted place) before now told counts = counts
told-counts (channel_ends.Bad place cause) before now told counts = counts
told-counts (channel_ends.Truncated place) before now told counts = counts
told-counts (channel_ends.NoEnd place) before now told counts = counts
told-counts (channel_ends.AfterEnd place) before now told counts = counts
told-counts channel_ends.TooLong before now told counts = counts

module _ (D : Desc) (e : Expect) (before now : List Told) (fans : List Fan) (ends : List ChannelEnd) (expects : Expects D e)
    (are : AreRead e before (channels_of now fans ends)) where
  abbrev links : Links
  links = record { before = before; now = now }

  out : (k : ℕ) → k < length before → is_told (slice_index_or ends k channel_ends.Ended) ≡ true → IsReadOut links k
  out k low told =
      let is = are.each k low in
      let end = slice_index_or ends k channel_ends.Ended in
      let stopped : HasStopped (now_at links k) (slice_index_or are.came k []) = told-stops end _ _ told is.stops in
      record {
        stopped =
            ⊎_elim (λ (ended : (now_at links k).ended ≡ true). inl ended)
            (λ (many : channel_limit < length (slice_index_or are.came k [])).
            inr (record { came = slice_index_or are.came k []; received = is.received; many = many })) stopped;
        sound = told-counts end _ _ told is.counts;
      }

  brought : HaveBrought links are.came
  brought = record { count = are.count; each = λ k low. (are.each k low).received }

  rose : (k : ℕ) → k < length before → slice_index_or ends k channel_ends.Ended ≡ channel_ends.Fault
      → Rose (before_at links k).failed_in (now_at links k).failed_in
  rose k low fault =
      subst (λ (x : ChannelEnd). Counts x (before_at links k).failed_in (now_at links k).failed_in) fault (are.each k low).counts

  pub staged-by : (result : Result StagedState StageFault) → StagesBy D ends (verdict D e are.came) result → IsStagedBy D links result
  staged-by (Ok staged) by =
      record {
        verdict = record { came = are.came; brought = brought; expect = e; expects = expects; says = by.1 };
        read_out = λ k low. out k low (by.0 k (omega (arith, low, are.answers)));
        failed = tt;
      }
  staged-by (Err (faults.Refusal refusal)) by =
      record {
        verdict = record { came = are.came; brought = brought; expect = e; expects = expects; says = by.1 };
        read_out = λ k low. out k low (by.0 k (omega (arith, low, are.answers)));
        failed = tt;
      }
  staged-by (Err (faults.Link channel)) by =
      let inside : channel < length before = omega (arith, by.0, are.answers) in
      record {
        verdict = record { came = are.came; brought = brought; expect = e; expects = expects; says = tt };
        read_out = λ k low. out k (omega (arith, low, inside)) (by.2 k low);
        failed = (inside, rose channel inside by.1);
      }
  staged-by (Err faults.NoMemory) by = record { verdict = tt; read_out = tt; failed = tt }

-- each fan of a mesh has as many streams as there are funnels
pub mesh-streams : (fans : List Fan) (funnels : List Funnel) (n : ℕ) → AreMesh fans funnels → length funnels ≡ n → HaveStreams fans n
mesh-streams fans funnels n mesh many k low =
    mesh.streams k (let same = length-map fans fan_rings in omega (arith, same, low)) ∙ length-map funnels funnel_rings ∙ many
