-- The answer about a whole move is the verdict on its channels.
use Rattle.std.proofs.Common.{◌≡◌, ◌∙◌, refl, sym, ap, ap₂, subst, ℕ, zero, suc, ◌+◌, ◌<◌, ◌≤◌, List, [], ◌∷◌, ◌++◌, length, map, drop, slice_index_or, Option, Some, None, Result, Ok, Err, IfOk, Vec, arith, ⊎_elim}
use Rattle.std.specs.Option.{option_or, option_map}
use Rattle.std.specs.declared.alloc.Global.{Global}
use Rattle.std.proofs.lemmas.Bool.{cases_eq}
use Rattle.std.proofs.lemmas.List.{at_drop_more}
use Rattle.std.proofs.lemmas.List.FromFn.{map-range_with_len_more}
use Rattle.vfm_types.specs.declared.desc.Desc.{Desc}
use Rattle.vfm_types.specs.declared.fault.Refusal.{Refusal}
use Rattle.vfm_types.specs.Desc.{device_count}
use Rattle.vfm_types.specs.Machine.{Machine}
use Rattle.vfm_plain.specs.declared.part.Part.{Part}
use Rattle.vfm_packet.specs.Packet.{Packet}
use Rattle.vfm_packet.specs.Channel.{channel_limit}
use Rattle.vfm_packet.specs.ChannelRefusal.{ChannelRefusal, Bad, Aborted, Truncated, NoEnd, AfterEnd, TooLong}
use Rattle.vfm_packet.specs.Reading.{Reading}
use Rattle.vfm_streams.specs.Whole.{StreamFault, stream_packets, gap_of}
use Rattle.vfm_streams.specs.Judged.{said, load_fault, stream_fault}
use Rattle.vfm_streams.specs.Verdict.{Verdict, channel_refusal, stream_refusal, refused_channel, refused_stream, brought, loaded_from, refuses_or, verdict_on}
use Rattle.vfm_recv.specs.declared.channel_end.ChannelEnd.{ChannelEnd}
use Rattle.vfm_recv.specs.Pumped.{end_of}
use Rattle.vfm_load.specs.Parts.{IsPartOf, loaded_part}
use Rattle.vfm_intake_laws.specs.Arrivals.{IsSameStream}
use Rattle.vfm_intake_laws.specs.Refused.{refused_of}
use Rattle.vfm_intake_laws.proofs.Weaving.{same-packets}
use Rattle.vfm_intake_laws.proofs.SameFaults.{gap-same, said-same, refused-same}
use Rattle.vfm_intake.specs.declared.stream.StreamIntake.{StreamIntake}
use Rattle.vfm_intake.specs.declared.intake.Intake.{Intake}
use Rattle.vfm_intake.specs.Streams.{IsStreamOf, StandsAfter}
use Rattle.vfm_intake.specs.Causes.{end_refusal}
use Rattle.vfm_intake.specs.Intakes.{stream_count, AreStreamsOf, StandAfter, IsIntakeOf}
use Rattle.vfm_intake.specs.Finished.{refusal_in, all_loaded, AreFinished}
use Rattle.vfm_intake.specs.Parts.{AreParts, machine_in}
use Rattle.vfm_intake.specs.Verdicts.{first_end_refusal, HasTakenIn, Answers}
use Rattle.vfm_intake.proofs.Elements.{behind, behind-inside}
use Rattle.vfm_intake.proofs.Machines.{are-parts, machine-loaded}

-- ---- streams

or-none : {X : Type 0} (o later : Option X) → option_or o later ≡ None → (o ≡ None) × (later ≡ None)
or-none None later none = (refl, none)
or-none (Some x) later none = let clash : Some x ≡ None = none in absurd cc

map-none : {X Y : Type 0} (f : X → Y) (o : Option X) → option_map f o ≡ None → o ≡ None
map-none f None none = refl
map-none f (Some x) none = let clash : Some (f x) ≡ None = none in absurd cc

pub none-refused : (D : Desc) (came : ℕ → List Packet) (from n : ℕ) → ((k : ℕ) → from ≤ k → k < from + n → stream_fault D k (came k) ≡ None)
    → refused_of D came from n ≡ None
none-refused D came from zero none = refl
none-refused D came from (suc n) none =
    ap (λ (o : Option StreamFault). option_or (option_map (stream_refusal from) o) (refused_of D came (from + 1) n)) (none from (omega arith) (omega arith))
    ∙ none-refused D came (from + 1) n (λ k low high. none k (omega (arith, low)) (omega (arith, high)))

pub refused-none : (D : Desc) (came : ℕ → List Packet) (from n : ℕ) → refused_of D came from n ≡ None
    → (k : ℕ) → from ≤ k → k < from + n → stream_fault D k (came k) ≡ None
refused-none D came from zero none k low high = absurd (omega (arith, low, high))
refused-none D came from (suc n) none k low high =
    let parts = or-none (option_map (stream_refusal from) (stream_fault D from (came from))) (refused_of D came (from + 1) n) none in
    ⊎_elim
    (λ (same : from ≡ k). subst (λ (j : ℕ). stream_fault D j (came j) ≡ None) same (map-none (stream_refusal from) (stream_fault D from (came from)) parts.0))
    (λ (away : from ≡ k → ⊥). refused-none D came (from + 1) n parts.1 k (grind (arith, away, low)) (omega (arith, high))) (cases_eq from k)

pub refused-at : (D : Desc) (came : ℕ → List Packet) (from n s : ℕ) (refusal : Refusal) → from ≤ s → s < from + n
    → ((k : ℕ) → from ≤ k → k < s → stream_fault D k (came k) ≡ None) → option_map (stream_refusal s) (stream_fault D s (came s)) ≡ Some refusal
    → refused_of D came from n ≡ Some refusal
refused-at D came from zero s refusal low high before here = absurd (omega (arith, low, high))
refused-at D came from (suc n) s refusal low high before here =
    ⊎_elim
    (λ (same : from ≡ s).
    ap (λ (o : Option Refusal). option_or o (refused_of D came (from + 1) n))
    (subst (λ (j : ℕ). option_map (stream_refusal j) (stream_fault D j (came j)) ≡ Some refusal) (sym same) here))
    (λ (away : from ≡ s → ⊥).
    ap (λ (o : Option StreamFault). option_or (option_map (stream_refusal from) o) (refused_of D came (from + 1) n))
    (before from (omega arith) (grind (arith, away, low)))
    ∙ refused-at D came (from + 1) n s refusal (grind (arith, away, low)) (omega (arith, high))
    (λ k above below. before k (omega (arith, above)) below) here) (cases_eq from s)

-- ---- one stream more

module _ (streams yielded : List StreamIntake) (x : StreamIntake) (rest : List StreamIntake) (split : streams ≡ yielded ++ x ∷ rest) where
  here : slice_index_or streams (length yielded) x ≡ x
  here = ap (λ (xs : List StreamIntake). slice_index_or xs (length yielded) x) split ∙ behind yielded x rest x

  pub inside : length yielded < length streams
  inside = subst (λ (xs : List StreamIntake). length yielded < length xs) (sym split) (behind-inside yielded x rest)

  pub stands-here : (D : Desc) (came : ℕ → List Packet) → StandAfter D came streams → StandsAfter x D (length yielded) (came (length yielded))
  stands-here D came stand =
      subst (λ (z : StreamIntake). StandsAfter z D (length yielded) (came (length yielded))) here (stand (length yielded) x inside)

  pub stream-here : (D : Desc) → AreStreamsOf D streams → IsStreamOf x D (length yielded)
  stream-here D each = subst (λ (z : StreamIntake). IsStreamOf z D (length yielded)) here (each (length yielded) x inside)

pub unrefused-here : (D : Desc) (s : ℕ) (packets : List Packet) → option_map (stream_refusal s) (stream_fault D s packets) ≡ None → stream_fault D s packets ≡ None
unrefused-here D s packets none = map-none (stream_refusal s) (stream_fault D s packets) none

-- its part comes behind the others
pub loaded-more : (D : Desc) (came : ℕ → List Packet) (s n : ℕ) (parts : List Part) (part : Part) → parts ≡ all_loaded D came s
    → part ≡ loaded_part D s (said s (came s)) → n ≡ s + 1 → parts ++ part ∷ [] ≡ all_loaded D came n
loaded-more D came s n parts part before own more =
    ap₂ (λ (ps : List Part) (p : Part). ps ++ p ∷ []) before own
    ∙ sym (map-range_with_len_more (λ k. loaded_part D k (said k (came k))) 0 s s (omega arith))
    ∙ ap (all_loaded D came) (sym more)

-- ---- channels

end-refused : (k : ℕ) (o : Option ChannelRefusal) → end_refusal k (end_of o) ≡ option_map (channel_refusal channel_limit k) o
end-refused k None = refl
end-refused k (Some (Bad place cause)) = refl
end-refused k (Some (Aborted place)) = refl
end-refused k (Some (Truncated place)) = refl
end-refused k (Some (NoEnd place)) = refl
end-refused k (Some (AfterEnd place)) = refl
end-refused k (Some TooLong) = refl

ends-refused : (k : ℕ) (readings : List Reading) → first_end_refusal k (map (λ r. end_of r.refusal) readings) ≡ refused_channel channel_limit k readings
ends-refused k [] = refl
ends-refused k (r ∷ readings) = ap₂ option_or (end-refused k r.refusal) (ends-refused (k + 1) readings)

-- one channel more is looked at
pub ends-step : (ends : List ChannelEnd) (k : ℕ) (e : ChannelEnd) (o : Option Refusal) → k < length ends → e ≡ slice_index_or ends k e → end_refusal k e ≡ o
    → first_end_refusal k (drop k ends) ≡ option_or o (first_end_refusal (k + 1) (drop (k + 1) ends))
ends-step ends k e o low is refused =
    at_drop_more (first_end_refusal k) ends k e low
    ∙ ap (λ (x : ChannelEnd). first_end_refusal k (x ∷ drop (k + 1) ends)) (sym is)
    ∙ ap (λ (r : Option Refusal). option_or r (first_end_refusal (k + 1) (drop (k + 1) ends))) refused

-- ---- the whole move

module _ (D : Desc) (intake : Intake) (ends : List ChannelEnd) (readings : List Reading) (made : IsIntakeOf intake D) (taken : HasTakenIn intake D ends readings) where
  channels-are : refused_channel channel_limit 0 readings ≡ first_end_refusal 0 ends
  channels-are = sym (ap (first_end_refusal 0) taken.ends_are ∙ ends-refused 0 readings)

  pub verdict-refused : (refusal : Refusal) → first_end_refusal 0 ends ≡ Some refusal → Answers D (verdict_on D channel_limit readings) (Err refusal)
  verdict-refused refusal refused =
      subst
      (λ (o : Option Refusal).
      Answers D (refuses_or (option_or o (refused_stream D (brought readings) 0 (device_count D + 1))) (loaded_from D (brought readings))) (Err refusal))
      (sym (channels-are ∙ refused)) refl

  same : (s : ℕ) → s < device_count D + 1 → IsSameStream (taken.came s) (stream_packets s (brought readings))
  same s low = same-packets s readings (taken.came s) (taken.from s (omega (arith, low)))

  streams-are : refused_stream D (brought readings) 0 (device_count D + 1) ≡ refused_of D taken.came 0 (stream_count intake)
  streams-are =
      sym (ap (refused_of D taken.came 0) made.count
      ∙ refused-same D taken.came (brought readings) 0 (device_count D + 1) (λ s low high. same s (omega (arith, high))))

  one-more : stream_count intake ≡ suc (device_count D)
  one-more = made.count ∙ omega arith

  -- what each says, where none is refused
  says-same : refused_of D taken.came 0 (stream_count intake) ≡ None → (s : ℕ) → s < suc (device_count D)
      → said s (taken.came s) ≡ said s (stream_packets s (brought readings))
  says-same none s low =
      let fault : stream_fault D s (taken.came s) ≡ None = refused-none D taken.came 0 (stream_count intake) none s (omega arith) (omega (arith, low, one-more)) in
      let gap : gap_of (taken.came s) ≡ None = (or-none (gap_of (taken.came s)) (load_fault D s (taken.came s)) fault).0 in
      let one = same s (omega (arith, low)) in
      said-same s (taken.came s) (stream_packets s (brought readings)) one
      (sym (gap-same (taken.came s) (stream_packets s (brought readings)) one) ∙ gap)

  loads : (parts : List Part) → AreFinished D taken.came (stream_count intake) parts → AreParts D parts × (machine_in parts ≡ loaded_from D (brought readings))
  loads parts finished =
      let parts_are : parts ≡ all_loaded D taken.came (suc (device_count D)) = finished.parts_are ∙ ap (all_loaded D taken.came) one-more in (
        subst (AreParts D) (sym parts_are) (are-parts D taken.came made.valid (λ s low. finished.each s (omega (arith, low, one-more)))),
        ap machine_in parts_are ∙ machine-loaded D taken.came (brought readings) (says-same finished.unrefused),
      )

  pub verdict-of : (answer : Result (Vec Part Global) Refusal) → first_end_refusal 0 ends ≡ None
      → refused_of D taken.came 0 (stream_count intake) ≡ refusal_in answer
      → IfOk answer (λ parts. AreFinished D taken.came (stream_count intake) parts.items) → Answers D (verdict_on D channel_limit readings) answer
  verdict-of (Ok parts) unrefused refused finished =
      subst
      (λ (o : Option Refusal). Answers D (refuses_or o (loaded_from D (brought readings))) (Ok parts))
      (sym (ap₂ option_or (channels-are ∙ unrefused) (streams-are ∙ refused))) (loads parts.items finished)
  verdict-of (Err refusal) unrefused refused finished =
      subst
      (λ (o : Option Refusal). Answers D (refuses_or o (loaded_from D (brought readings))) (Err refusal))
      (sym (ap₂ option_or (channels-are ∙ unrefused) (streams-are ∙ refused))) refl
