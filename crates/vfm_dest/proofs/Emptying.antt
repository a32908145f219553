-- Parcels of a stream go from a mesh into an intake, one by one.
use Rattle.std.proofs.Common.{◌≡◌, ◌∙◌, refl, sym, ap, ap₂, subst, ℕ, ◌+◌, ◌<◌, ◌==◌, if◌then◌else◌, List, [], ◌∷◌, ◌++◌, slice_index_or, arith, ⊎_elim, eq-eqb, append_assoc}
use Rattle.std.proofs.lemmas.Bool.{cond-true, cond-false, cases_eq, ne_eqb}
use Rattle.vfm_types.specs.declared.desc.Desc.{Desc}
use Rattle.vfm_types.specs.Desc.{device_count}
use Rattle.vfm_packet.specs.Packet.{Packet}
use Rattle.vfm_streams.proofs.Numbered.{by_bool}
use Rattle.vfm_mesh.specs.declared.parcel.Parcel.{Parcel}
use Rattle.vfm_mesh.specs.declared.parcel.Parcel.TheVariants as parcels
use Rattle.vfm_mesh.specs.declared.rest.Rest.{Rest}
use Rattle.vfm_mesh.specs.Meshes.{channels_left, left, Gives, IsSameLeft}
use Rattle.vfm_intake_laws.specs.Arrivals.{of_channel}
use Rattle.vfm_intake.specs.declared.intake.Intake.{Intake}
use Rattle.vfm_intake.specs.Streams.{StandsAfter}
use Rattle.vfm_intake.specs.Intakes.{HasTaken, with_parcel}
use Rattle.vfm_stream_work.specs.Parcels.{packets_in, untagged}
use Rattle.vfm_stream_work.proofs.Tagged.{tag, no-more, untagged-both, channel-both, tag-here, tag-away}
use Rattle.vfm_dest.specs.Drained.{with_more, with_all, AreLeft, Moves, HasDrained, HasDrainedBelow}
use Rattle.vfm_dest.proofs.Weights.{below-of}

-- ---- what came of each stream

same-taken : (x : Intake) (D : Desc) (f g : ℕ → List Packet) → ((t : ℕ) → f t ≡ g t) → HasTaken x D f → HasTaken x D g
same-taken x D f g same h s y low = subst (StandsAfter (slice_index_or x.streams.items s y) D s) (same s) (h s y low)

with-none : (came : ℕ → List Packet) (s t : ℕ) → came t ≡ with_more came s [] t
with-none came s t =
    by_bool (t == s) (λ c. came t ≡ (if c then came t ++ [] else came t)) (λ here. sym (no-more (came t))) (λ away. refl)

with-one : (came : ℕ → List Packet) (s k : ℕ) (tagged : List (ℕ × Packet)) (parcel : Parcel) (t : ℕ)
    → with_parcel (with_more came s (untagged tagged)) s parcel t ≡ with_more came s (untagged (tagged ++ tag k parcel)) t
with-one came s k tagged parcels.Close t = ap (λ (l : List (ℕ × Packet)). with_more came s (untagged l) t) (sym (no-more tagged))
with-one came s k tagged (parcels.Packet head payload) t =
    let packet : Packet = record { head = head; payload = payload } in
    by_bool (t == s)
    (λ c. (if c then (if c then came t ++ untagged tagged else came t) ++ packet ∷ [] else (if c then came t ++ untagged tagged else came t))
    ≡ (if c then came t ++ untagged (tagged ++ (k, packet) ∷ []) else came t))
    (λ here.
    append_assoc (came t) (untagged tagged) (packet ∷ [])
    ∙ ap (λ (l : List Packet). came t ++ l) (sym (untagged-both tagged ((k, packet) ∷ []))))
    (λ away. refl)

-- ---- one stream

pub moves-none : (D : Desc) (s : ℕ) (rest : Rest) (intake : Intake) → Moves D s rest rest intake intake
moves-none D s rest intake = record {
  tagged = [];
  each = λ k. refl;
  none = λ k high. refl;
  others = λ k t away. refl;
  taken = λ came h. same-taken intake D came (with_more came s []) (with-none came s) h;
}

module _ (D : Desc) (s : ℕ) (before mid now : Rest) (from through : Intake) (moved : Moves D s before mid from through)
    (channels : channels_left mid ≡ channels_left before) where
  pub moves-more : (to : Intake) (given : ℕ × Parcel) → Gives mid now s given
      → ((came : ℕ → List Packet) → HasTaken through D came → HasTaken to D (with_parcel came s given.1)) → Moves D s before now from to
  moves-more to given gives takes =
      let one : (k : ℕ) → packets_in (left mid k s) ≡ of_channel k (tag given.0 given.1) ++ packets_in (left now k s) =
      (λ k.
      ⊎_elim
      (λ (same : k ≡ given.0).
      subst (λ (j : ℕ). packets_in (left mid j s) ≡ of_channel j (tag given.0 given.1) ++ packets_in (left now j s)) (sym same)
      (ap packets_in gives.first ∙ tag-here given.0 given.1 (left now given.0 s)))
      (λ (away : k ≡ given.0 → ⊥).
      ap₂ (λ (a b : List Packet). a ++ b) (sym (tag-away given.0 k given.1 (λ e. away (sym e))))
      (ap packets_in (sym (gives.others k s (λ e f. away e))))) (cases_eq k given.0)) in
      record {
        tagged = moved.tagged ++ tag given.0 given.1;
        each = λ k.
            moved.each k
            ∙ ap (λ (l : List Packet). of_channel k moved.tagged ++ l) (one k)
            ∙ sym (append_assoc (of_channel k moved.tagged) (of_channel k (tag given.0 given.1)) (packets_in (left now k s)))
            ∙ ap (λ (l : List Packet). l ++ packets_in (left now k s)) (sym (channel-both k moved.tagged (tag given.0 given.1)));
        none = λ k high.
            channel-both k moved.tagged (tag given.0 given.1)
            ∙ ap₂ (λ (a b : List Packet). a ++ b) (moved.none k high)
            (tag-away given.0 k given.1 (λ e. absurd (omega (arith, e, high, channels, gives.channel))));
        others = λ k t away. gives.others k t (λ e f. away f) ∙ moved.others k t away;
        taken = λ came h.
            same-taken to D (with_parcel (with_more came s (untagged moved.tagged)) s given.1)
            (with_more came s (untagged (moved.tagged ++ tag given.0 given.1)))
            (with-one came s given.0 moved.tagged given.1)
            (takes (with_more came s (untagged moved.tagged)) (moved.taken came h));
      }

  pub moves-all : IsSameLeft mid now → Moves D s before now from through
  moves-all same = record {
    tagged = moved.tagged;
    each = λ k. moved.each k ∙ ap (λ (l : List Parcel). of_channel k moved.tagged ++ packets_in l) (sym (same k s));
    none = moved.none;
    others = λ k t away. same k t ∙ moved.others k t away;
    taken = moved.taken;
  }

-- ---- all streams

pub drained-none : (D : Desc) (rest : Rest) (intake : Intake) → HasDrainedBelow D 0 rest rest intake intake
drained-none D rest intake = record {
  tagged = λ s. [];
  taken = λ came h. same-taken intake D came (with_all came (λ s. [])) (λ s. sym (no-more (came s))) h;
  each = λ s low. absurd (omega (arith, low));
  none = λ s high. refl;
  still = λ k s high. refl;
}

with-here : {X : Type 0} (came : ℕ → List X) (s : ℕ) (more : List X) → came s ≡ [] → with_more came s more s ≡ more
with-here came s more none =
    cond-true (s == s) (came s ++ more) (came s) (eq-eqb s s refl) ∙ ap (λ (l : List _). l ++ more) none

with-away : {X : Type 0} (came : ℕ → List X) (s t : ℕ) (more : List X) → (t ≡ s → ⊥) → with_more came s more t ≡ came t
with-away came s t more away = cond-false (t == s) (came t ++ more) (came t) (ne_eqb t s away)

-- more packets of one stream, behind those of all
all-more : (came : ℕ → List Packet) (tagged : ℕ → List (ℕ × Packet)) (s : ℕ) (more : List (ℕ × Packet)) (t : ℕ)
    → with_more (with_all came tagged) s (untagged more) t ≡ with_all came (with_more tagged s more) t
all-more came tagged s more t =
    by_bool (t == s)
    (λ c. (if c then (came t ++ untagged (tagged t)) ++ untagged more else came t ++ untagged (tagged t))
    ≡ came t ++ untagged (if c then tagged t ++ more else tagged t))
    (λ here.
    append_assoc (came t) (untagged (tagged t)) (untagged more)
    ∙ ap (λ (l : List Packet). came t ++ l) (sym (untagged-both (tagged t) more)))
    (λ away. refl)

module _ (D : Desc) (n : ℕ) (before mid now : Rest) (from through to : Intake) (drained : HasDrainedBelow D n before mid from through)
    (moved : Moves D n mid now through to) (all : (k : ℕ) → k < channels_left mid → left now k n ≡ [])
    (channels : channels_left mid ≡ channels_left before) where
  here : AreLeft before n moved.tagged
  here = record {
    each = λ k low.
        sym (no-more (of_channel k moved.tagged))
        ∙ ap (λ (l : List Parcel). of_channel k moved.tagged ++ packets_in l) (sym (all k (omega (arith, low, channels))))
        ∙ sym (moved.each k)
        ∙ ap packets_in (drained.still k n (omega arith));
    none = λ k high. moved.none k (omega (arith, high, channels));
  }

  pub drained-more : HasDrainedBelow D (n + 1) before now from to
  drained-more = record {
    tagged = with_more drained.tagged n moved.tagged;
    taken = λ came h.
        same-taken to D (with_more (with_all came drained.tagged) n (untagged moved.tagged)) (with_all came (with_more drained.tagged n moved.tagged))
        (all-more came drained.tagged n moved.tagged) (moved.taken (with_all came drained.tagged) (drained.taken came h));
    each = λ s low.
        ⊎_elim
        (λ (same : n ≡ s).
        subst (λ (j : ℕ). AreLeft before j (with_more drained.tagged n moved.tagged j)) same
        (subst (AreLeft before n) (sym (with-here drained.tagged n moved.tagged (drained.none n (omega arith)))) here))
        (λ (away : n ≡ s → ⊥).
        subst (AreLeft before s) (sym (with-away drained.tagged n s moved.tagged (λ e. away (sym e))))
        (drained.each s (below-of n s (omega (arith, low)) away))) (cases_eq n s);
    none = λ s high.
        with-away drained.tagged n s moved.tagged (λ e. absurd (omega (arith, e, high))) ∙ drained.none s (omega (arith, high));
    still = λ k s high. moved.others k s (λ e. absurd (omega (arith, e, high))) ∙ drained.still k s (omega (arith, high));
  }

-- once all streams are taken
pub drained-all : (D : Desc) (before now : Rest) (from to : Intake) → HasDrainedBelow D (device_count D + 1) before now from to
    → HasDrained D before from to
drained-all D before now from to drained = record {
  tagged = drained.tagged;
  taken = drained.taken;
  each = λ s low. drained.each s (omega (arith, low));
}
