-- The worker of a stream goes on.
use Rattle.std.proofs.Common.{◌≡◌, ◌∙◌, refl, sym, ap, subst, ℕ, ◌<◌, true, false, List, [], ◌∷◌, ◌++◌, length, slice_index_or, slice_set, ⊎_elim, append_assoc}
use Rattle.std.proofs.lemmas.Bool.{cases_eq, cases_Bool, false≢true}
use Rattle.std.proofs.lemmas.List.{get_or-set_other, get_or-set_same, length-map}
use Rattle.vfm_types.specs.declared.desc.Desc.{Desc}
use Rattle.vfm_packet.specs.Packet.{Packet}
use Rattle.vfm_mesh.specs.declared.parcel.Parcel.{Parcel}
use Rattle.vfm_mesh.specs.declared.funnel.Funnel.{Funnel}
use Rattle.vfm_mesh.specs.Rows.{channel_count, funnel_rings, all_taken, taken}
use Rattle.vfm_intake_laws.specs.Arrivals.{of_channel}
use Rattle.vfm_intake.specs.declared.stream.StreamIntake.{StreamIntake}
use Rattle.vfm_intake.specs.Streams.{stream_in, IsStreamOf, StandsAfter}
use Rattle.vfm_stream_work.specs.declared.worker.StreamWorker.{StreamWorker}
use Rattle.vfm_stream_work.specs.Parcels.{packets_in, untagged}
use Rattle.vfm_stream_work.specs.Workers.{HasCome, Passes, HasWorked, HasGiven}
use Rattle.vfm_stream_work.proofs.Tagged.{tag, no-more, untagged-both, channel-both, tag-here, tag-away, untagged-one, packets-both}

-- ---- nothing more

pub come-none : (D : Desc) (intake : StreamIntake) → HasCome D [] intake intake
come-none D intake came stands = subst (StandsAfter intake D (stream_in intake)) (sym (no-more came)) stands

-- the same was taken
pub passes-none : (D : Desc) (before now : StreamWorker) → all_taken now.funnel ≡ all_taken before.funnel → now.intake ≡ before.intake
    → Passes D before now
passes-none D before now same still = record {
  tagged = [];
  each = λ k. ap (λ (rows : List (List Parcel)). packets_in (slice_index_or rows k [])) same ∙ sym (no-more (packets_in (taken before.funnel k)));
  come = subst (HasCome D [] before.intake) (sym still) (come-none D before.intake);
}

-- ---- one after the other

pub come-both : (D : Desc) (a b : List Packet) (before mid now : StreamIntake) → stream_in mid ≡ stream_in before
    → HasCome D a before mid → HasCome D b mid now → HasCome D (a ++ b) before now
come-both D a b before mid now stream first second came stands =
    subst (StandsAfter now D (stream_in before)) (append_assoc came a b)
    (subst (λ (s : ℕ). StandsAfter now D s ((came ++ a) ++ b)) stream
    (second (came ++ a) (subst (λ (s : ℕ). StandsAfter mid D s (came ++ a)) (sym stream) (first came stands))))

passes-both : (D : Desc) (before mid now : StreamWorker) → stream_in mid.intake ≡ stream_in before.intake → Passes D before mid → Passes D mid now
    → Passes D before now
passes-both D before mid now stream first second = record {
  tagged = first.tagged ++ second.tagged;
  each = λ k.
      second.each k
      ∙ ap (λ (l : List Packet). l ++ of_channel k second.tagged) (first.each k)
      ∙ append_assoc (packets_in (taken before.funnel k)) (of_channel k first.tagged) (of_channel k second.tagged)
      ∙ ap (λ (l : List Packet). packets_in (taken before.funnel k) ++ l) (sym (channel-both k first.tagged second.tagged));
  come =
      subst (λ (l : List Packet). HasCome D l before.intake now.intake) (sym (untagged-both first.tagged second.tagged))
      (come-both D (untagged first.tagged) (untagged second.tagged) before.intake mid.intake now.intake stream first.come second.come);
}

-- what isn't at the end wasn't before
not-before : (before now : StreamWorker) → (before.is_short ≡ true → now.is_short ≡ true) → now.is_short ≡ false → before.is_short ≡ false
not-before before now short none =
    ⊎_elim (λ (is : before.is_short ≡ true). absurd (false≢true (sym none ∙ short is))) (λ (no : before.is_short ≡ false). no)
    (cases_Bool before.is_short)

pub worked-none : (D : Desc) (worker : StreamWorker) → IsStreamOf worker.intake D (stream_in worker.intake) → HasWorked D worker worker
worked-none D worker made = record {
  made = made;
  stream = refl;
  rings = refl;
  passes = λ now before. passes-none D worker worker refl refl;
  short = λ is. is;
}

-- nothing was found
pub worked-idle : (D : Desc) (before now : StreamWorker) → IsStreamOf before.intake D (stream_in before.intake)
    → now.intake ≡ before.intake → now.is_short ≡ before.is_short
    → funnel_rings now.funnel ≡ funnel_rings before.funnel → all_taken now.funnel ≡ all_taken before.funnel → HasWorked D before now
worked-idle D before now made intake short rings same = record {
  made = subst (λ (x : StreamIntake). IsStreamOf x D (stream_in before.intake)) (sym intake) made;
  stream = ap (λ (x : StreamIntake). stream_in x) intake;
  rings = rings;
  passes = λ none was. passes-none D before now same intake;
  short = λ is. short ∙ is;
}

pub worked-both : (D : Desc) (before mid now : StreamWorker) → HasWorked D before mid → HasWorked D mid now → HasWorked D before now
worked-both D before mid now first second = record {
  made = subst (IsStreamOf now.intake D) first.stream second.made;
  stream = second.stream ∙ first.stream;
  rings = second.rings ∙ first.rings;
  passes = λ none was.
      let still : mid.is_short ≡ false = not-before mid now second.short none in
      passes-both D before mid now first.stream (first.passes still was) (second.passes none still);
  short = λ is. second.short (first.short is);
}

-- ---- a parcel was taken

-- what was taken of one channel, with a parcel more of channel i
taken-more : (before now : Funnel) (i : ℕ) (parcel : Parcel) → i < length (all_taken before)
    → all_taken now ≡ slice_set (all_taken before) i (taken before i ++ parcel ∷ [])
    → (k : ℕ) → packets_in (taken now k) ≡ packets_in (taken before k) ++ of_channel k (tag i parcel)
taken-more before now i parcel low more k =
    ap (λ (rows : List (List Parcel)). packets_in (slice_index_or rows k [])) more
    ∙ ⊎_elim
    (λ (same : k ≡ i).
    subst (λ (j : ℕ). packets_in (slice_index_or (slice_set (all_taken before) i (taken before i ++ parcel ∷ [])) j [])
    ≡ packets_in (taken before j) ++ of_channel j (tag i parcel)) (sym same)
    (ap packets_in (get_or-set_same (all_taken before) i (taken before i ++ parcel ∷ []) [] low)
    ∙ packets-both (taken before i) (parcel ∷ [])
    ∙ ap (λ (l : List Packet). packets_in (taken before i) ++ l) (tag-here i parcel [] ∙ no-more (of_channel i (tag i parcel)))))
    (λ (away : k ≡ i → ⊥).
    ap packets_in (get_or-set_other (all_taken before) i k (taken before i ++ parcel ∷ []) [] away)
    ∙ sym (no-more (packets_in (taken before k)))
    ∙ ap (λ (l : List Packet). packets_in (taken before k) ++ l) (sym (tag-away i k parcel (λ e. away (sym e))))) (cases_eq k i)

pub worked-one : (D : Desc) (before mid now : StreamWorker) (i : ℕ) (parcel : Parcel) → i < length (all_taken before.funnel)
    → all_taken mid.funnel ≡ slice_set (all_taken before.funnel) i (taken before.funnel i ++ parcel ∷ [])
    → funnel_rings mid.funnel ≡ funnel_rings before.funnel → mid.intake ≡ before.intake → mid.is_short ≡ before.is_short
    → HasGiven D parcel mid now → now.funnel ≡ mid.funnel → HasWorked D before now
worked-one D before mid now i parcel low more rings intake short given funnel = record {
  made = subst (λ (x : StreamIntake). IsStreamOf now.intake D (stream_in x)) intake given.made;
  stream = given.stream ∙ ap (λ (x : StreamIntake). stream_in x) intake;
  rings = ap funnel_rings funnel ∙ rings;
  passes = λ none was. record {
    tagged = tag i parcel;
    each = λ k.
        ap (λ (f : Funnel). packets_in (taken f k)) funnel ∙ taken-more before.funnel mid.funnel i parcel low more k;
    come =
        subst (λ (l : List Packet). HasCome D l before.intake now.intake) (sym (untagged-one i parcel))
        (subst (λ (x : StreamIntake). HasCome D (packets_in (parcel ∷ [])) x now.intake) intake (given.come none));
  };
  short = λ is. given.short (short ∙ is);
}

-- a channel of a funnel has a row among what was taken
pub in-rows : (funnel : Funnel) (k : ℕ) → k < channel_count funnel → k < length (all_taken funnel)
in-rows funnel k low = rw length-map low
