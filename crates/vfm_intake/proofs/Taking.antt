-- One stream of an intake takes a packet.
use Rattle.std.proofs.Common.{◌≡◌, ◌∙◌, refl, sym, ap, subst, ℕ, ◌<◌, ◌==◌, if◌then◌else◌, Bool, List, [], ◌∷◌, ◌++◌, length, slice_index_or, slice_set, arith, eq-eqb}
use Rattle.std.proofs.lemmas.Bool.{ne_eqb}
use Rattle.vfm_types.specs.declared.desc.Desc.{Desc}
use Rattle.vfm_packet.specs.declared.header.Header.{Header}
use Rattle.vfm_packet.specs.Packet.{Packet}
use Rattle.vfm_streams.specs.Whole.{is_config}
use Rattle.vfm_reorder.specs.Buffers.{IsPacket}
use Rattle.vfm_mesh.specs.declared.parcel.Parcel.TheVariants as parcels
use Rattle.vfm_intake.specs.declared.stream.StreamIntake.{StreamIntake}
use Rattle.vfm_intake.specs.Streams.{stream_in, IsStreamOf, StandsAfter}
use Rattle.vfm_intake.specs.Intakes.{AreStreamsOf, StandAfter, with_parcel}
use Rattle.vfm_intake.proofs.Elements.{each-set}

module _ (D : Desc) (streams : List StreamIntake) (i : ℕ) (x y : StreamIntake) (low : i < length streams) (was : x ≡ slice_index_or streams i x)
    (each : AreStreamsOf D streams) where
  at : IsStreamOf x D i
  at = subst (λ (z : StreamIntake). IsStreamOf z D i) (sym was) (each i x low)

  number : stream_in x ≡ i
  number = at.fed.stream

  pub set-made : IsStreamOf y D (stream_in x) → AreStreamsOf D (slice_set streams i y)
  set-made made =
      each-set (λ s z. IsStreamOf z D s) streams i y low (subst (IsStreamOf y D) number made) (λ s z away inside. each s z inside)

  stood : (came : List Packet) → StandsAfter (slice_index_or streams i x) D i came → StandsAfter x D (stream_in x) came
  stood came stands =
      subst (λ (n : ℕ). StandsAfter x D n came) (sym number) (subst (λ (z : StreamIntake). StandsAfter z D i came) (sym was) stands)

  pub set-still : ((came : List Packet) → StandsAfter x D (stream_in x) came → StandsAfter y D (stream_in x) came)
      → (came : ℕ → List Packet) → StandAfter D came streams → StandAfter D came (slice_set streams i y)
  set-still still came stand =
      each-set (λ s z. StandsAfter z D s (came s)) streams i y low
      (subst (λ (n : ℕ). StandsAfter y D n (came i)) number (still (came i) (stood (came i) (stand i x low))))
      (λ s z away inside. stand s z inside)

  module _ (head : Header) (payload : List ℕ) where
    packet : Packet
    packet = record { head = head; payload = payload }

    own : (came : ℕ → List Packet) → with_parcel came i (parcels.Packet head payload) i ≡ came i ++ packet ∷ []
    unfolding packet
    own came = ap (λ (b : Bool). if b then came i ++ record { head = head; payload = payload } ∷ [] else came i) (eq-eqb i i refl)

    other : (came : ℕ → List Packet) (s : ℕ) → (s ≡ i → ⊥) → with_parcel came i (parcels.Packet head payload) s ≡ came s
    other came s away = ap (λ (b : Bool). if b then came s ++ record { head = head; payload = payload } ∷ [] else came s) (ne_eqb s i away)

    is-own : IsPacket packet head.index (is_config head.kind) payload
    unfolding packet
    is-own = record { index_is = refl; config_is = refl; payload_is = refl }

    pub set-taken : ((came : List Packet) (p : Packet) → StandsAfter x D (stream_in x) came → IsPacket p head.index (is_config head.kind) payload
        → StandsAfter y D (stream_in x) (came ++ p ∷ []))
        → (came : ℕ → List Packet) → StandAfter D came streams → StandAfter D (with_parcel came i (parcels.Packet head payload)) (slice_set streams i y)
    set-taken taken came stand =
        each-set (λ s z. StandsAfter z D s (with_parcel came i (parcels.Packet head payload) s)) streams i y low
        (subst (StandsAfter y D i) (sym (own came))
        (subst (λ (n : ℕ). StandsAfter y D n (came i ++ packet ∷ [])) number (taken (came i) packet (stood (came i) (stand i x low)) is-own)))
        (λ s z away inside. subst (StandsAfter (slice_index_or streams s z) D s) (sym (other came s away)) (stand s z inside))
