-- All workers worked: what came of the channels, and what is left.
use Rattle.std.proofs.Common.{◌≡◌, ◌∙◌, sym, ap, subst, ℕ, ◌<◌, List, [], length, map, slice_index_or}
use Rattle.std.proofs.lemmas.List.{length-map}
use Rattle.std.specs.Prelude.{All}
use Rattle.vfm_types.specs.declared.desc.Desc.{Desc}
use Rattle.vfm_packet.specs.declared.answer.Expect.{Expect}
use Rattle.vfm_streams.specs.Verdict.{Expects}
use Rattle.vfm_mesh.specs.declared.fan.Fan.{Fan}
use Rattle.vfm_mesh.specs.Rows.{fan_rings}
use Rattle.vfm_mesh.specs.Meshes.{AreMesh, given_at}
use Rattle.vfm_recv.specs.declared.channel_end.ChannelEnd.{ChannelEnd}
use Rattle.vfm_stream_work.specs.declared.worker.StreamWorker.{StreamWorker}
use Rattle.vfm_stream_work.specs.Workers.{funnel_of, HasWorked}
use Rattle.vfm_dest.specs.declared.channel_worker.ChannelWorker.{ChannelWorker}
use Rattle.vfm_dest.specs.ChannelWorkers.{link_in, fan_in, end_in, expect_in, IsFresh, HasHeard}
use Rattle.vfm_dest.specs.Heards.{Told, OutWords, SendAsBefore, channels_of, AreRead, WereRead}
use Rattle.vfm_dest.specs.Staging.{AreHired}
use Rattle.vfm_dest.proofs.Telling.{mesh-streams}
use Rattle.vfm_dest.proofs.Reading.{each-fresh, have-read, fan-rings, send-as-before}
use Rattle.vfm_dest.proofs.Loading.{still-mesh}

module _ {L : Type 0} (D : Desc) (e : Expect) (links : List L) (fans : List Fan) (workers : List (ChannelWorker L)) (streams : List StreamWorker)
    (expects : Expects D e) (channels : length links ≡ D.channels) (fan_count : length fans ≡ D.channels)
    (hired : AreHired D streams) (mesh : AreMesh fans (map funnel_of streams))
    (links_are : map link_in workers ≡ links) (fans_are : map fan_in workers ≡ fans) (all_expect : All (λ w. expect_in w ≡ e) workers) where
  -- before they work
  pub fresh : ((k s : ℕ) → given_at fans k s ≡ []) → All (λ w. IsFresh w) workers
  fresh given =
      each-fresh workers fans e fans_are all_expect
      (mesh-streams fans (map funnel_of streams) e.streams mesh (length-map streams funnel_of ∙ hired.streams ∙ sym expects.streams)) given

  module _ (tell : L → Told) (words : OutWords L) (now : List (ChannelWorker L)) (same : length now ≡ length workers)
      (heard : (k : ℕ) (d : ChannelWorker L) → k < length workers → HasHeard tell words (slice_index_or workers k d) (slice_index_or now k d))
      (links_now : List L) (fans_now : List Fan) (ends : List ChannelEnd)
      (links_left : links_now ≡ map link_in now) (fans_left : fans_now ≡ map fan_in now) (ends_left : ends ≡ map end_in now) where
    pub are-read : AreRead e (map tell links) (channels_of (map tell links_now) fans_now ends)
    are-read =
        subst (λ (l : List L). AreRead e (map tell l) (channels_of (map tell links_now) fans_now ends)) links_are
        (subst (λ (l : List L). AreRead e (map tell (map link_in workers)) (channels_of (map tell l) fans_now ends)) (sym links_left)
        (subst (λ (l : List Fan). AreRead e (map tell (map link_in workers)) (channels_of (map tell (map link_in now)) l ends)) (sym fans_left)
        (subst (λ (l : List ChannelEnd). AreRead e (map tell (map link_in workers)) (channels_of (map tell (map link_in now)) (map fan_in now) l))
        (sym ends_left) (have-read tell words e workers now same heard all_expect))))

    pub as-many : length (map tell links) ≡ length fans_now
    as-many =
        length-map links tell ∙ ap (λ (l : List L). length l) (sym links_are) ∙ length-map workers link_in ∙ sym same
        ∙ sym (length-map now fan_in) ∙ ap (λ (l : List Fan). length l) (sym fans_left)

    pub were-read : WereRead D fans_now ends
    were-read = record { expect = e; before = map tell links; links = map tell links_now; expects = expects; many = as-many; are = are-read }

    pub as-sent : SendAsBefore words links links_now
    as-sent =
        subst (λ (l : List L). SendAsBefore words l links_now) links_are
        (subst (λ (l : List L). SendAsBefore words (map link_in workers) l) (sym links_left) (send-as-before tell words workers now same heard))

    pub mesh-left : (streams_now : List StreamWorker) → length streams_now ≡ length streams
        → ((s : ℕ) (d : StreamWorker) → s < length streams → HasWorked D (slice_index_or streams s d) (slice_index_or streams_now s d))
        → AreMesh fans_now (map funnel_of streams_now)
    mesh-left streams_now same_streams worked =
        still-mesh D streams hired streams_now same_streams worked fans fans_now mesh
        (ap (map fan_rings) fans_left ∙ fan-rings tell words workers now same heard ∙ ap (map fan_rings) fans_are)
