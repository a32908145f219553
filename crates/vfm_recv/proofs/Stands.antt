-- What an intake knows goes on to be so, step by step.
use Rattle.std.proofs.Common.{◌≡◌, ◌∙◌, refl, sym, ap, subst, ℕ, ◌+◌, ◌<◌, ◌==◌, if◌then◌else◌, List, [], ◌∷◌, ◌++◌, length, map, slice_index_or, slice_set, IsTrue, arith, append_assoc, append-nil, ⊎_elim, eq-eqb, inl, inr, ◌⊎◌}
use Rattle.std.specs.List.{AllByRecursion}
use Rattle.std.proofs.lemmas.Bool.{cases_eq, ne_eqb}
use Rattle.std.proofs.lemmas.Grind.{flat_map-append}
use Rattle.std.proofs.lemmas.List.{length-append, map-append, drop_all, get_or-set_same, get_or-set_other, length-map}
use Rattle.std.proofs.lemmas.List.Elements.{filter-append}
use Rattle.vfm_packet.specs.declared.header.Header.{Header}
use Rattle.vfm_packet.specs.declared.header.Kind.{Kind}
use Rattle.vfm_packet.specs.declared.answer.Cause.{Cause}
use Rattle.vfm_packet.specs.declared.answer.Decoded.TheVariants as answers
use Rattle.vfm_packet.specs.declared.answer.Expect.{Expect}
use Rattle.vfm_packet.specs.Header.{carries}
use Rattle.vfm_packet.specs.Packet.{Packet, packet_at, packet_bytes, packet_size}
use Rattle.vfm_packet.specs.Answer.{decoded, BeginsWith}
use Rattle.vfm_packet.specs.Channel.{IsCarried, all_bytes}
use Rattle.vfm_packet.proofs.Packets.{answer_stays, packet_was}
use Rattle.vfm_mesh.specs.declared.parcel.Parcel.{Parcel}
use Rattle.vfm_mesh.specs.declared.fan.Fan.{Fan}
use Rattle.vfm_mesh.specs.Feeds.{feed_given}
use Rattle.vfm_mesh.specs.Rows.{stream_count, all_given, given}
use Rattle.vfm_streams.specs.Whole.{stream_packets}
use Rattle.vfm_recv.specs.declared.intake.Intake.{Intake}
use Rattle.vfm_recv.specs.declared.intake.Stage.{Stage}
use Rattle.vfm_recv.specs.declared.intake.Stage.TheVariants as stages
use Rattle.vfm_recv.specs.Handed.{parcel_of, parcels_of, HandsOn}
use Rattle.vfm_recv.specs.Intakes.{IsMark, StandsAfter, Standing}

-- ---- after a refusal

-- a mark stands, whatever follows it
mark-stays : (e f : Expect) (rest more : List ℕ) (kind : Kind) (used : ℕ) → f ≡ e → IsMark e rest kind used → IsMark f (rest ++ more) kind used
mark-stays e f rest more kind used same mark =
    subst (λ (g : Expect). IsMark g (rest ++ more) kind used) (sym same)
    (record {
      head = mark.head;
      found = answer_stays e rest more (λ (none : decoded e rest ≡ answers.More). let clash : answers.Packet mark.head used ≡ answers.More = sym mark.found ∙ none in absurd cc) ∙ mark.found;
      of_kind = mark.of_kind;
    })

grown : (stage : Stage) (i j : Intake) (n : ℕ) (rest more : List ℕ) → (stage ≡ stages.Open → ⊥) → j.expect ≡ i.expect → j.place ≡ i.place
    → StandsAfter stage i n rest → StandsAfter stage j n (rest ++ more)
grown stages.Open i j n rest more shut same place stands = absurd (shut refl)
grown stages.Ended i j n rest more shut same place stands =
    (stands.0, mark-stays i.expect j.expect rest more _ stands.0 same stands.1, omega (arith, stands.2, length-append rest more), place ∙ stands.3)
grown stages.Aborted i j n rest more shut same place stands =
    (stands.0, mark-stays i.expect j.expect rest more _ stands.0 same stands.1, place ∙ stands.2)
grown (stages.Bad cause) i j n rest more shut same place stands = (
  subst (λ (e : Expect). decoded e (rest ++ more) ≡ answers.Bad cause) (sym same)
      (answer_stays i.expect rest more (λ (none : decoded i.expect rest ≡ answers.More). let clash : answers.Bad cause ≡ answers.More = sym stands.0 ∙ none in absurd cc) ∙ stands.0),
  place ∙ stands.1,
)
grown stages.NoMemory i j n rest more shut same place stands = tt

-- more bytes come, which are only counted
pub dropped : (i j : Intake) (came more : List ℕ) (before fan : Fan) → (i.stage ≡ stages.Open → ⊥)
    → j.stage ≡ i.stage → j.expect ≡ i.expect → j.place ≡ i.place → j.came ≡ i.came + length more
    → Standing i came before fan → Standing j (came ++ more) before fan
dropped i j came more before fan shut stage same place count s = record {
  packets = s.packets;
  rest = s.rest ++ more;
  each = subst (λ (e : Expect). AllByRecursion (IsCarried e) s.packets) (sym same) s.each;
  encoded = ap (λ (l : List ℕ). l ++ more) s.encoded ∙ append_assoc (all_bytes s.packets) s.rest more;
  stands =
      subst (λ (t : Stage). StandsAfter t j (length (all_bytes s.packets)) (s.rest ++ more)) (sym stage)
      (grown i.stage i j (length (all_bytes s.packets)) s.rest more shut same place s.stands);
  handed = s.handed;
  count = count ∙ ap (λ (n : ℕ). n + length more) s.count ∙ sym (length-append came more);
}

-- ---- while packets may come

-- the stage changes
pub restage : (i j : Intake) (came more : List ℕ) (before fan : Fan) → i.stage ≡ stages.Open
    → j.expect ≡ i.expect → j.came ≡ i.came + length more
    → ((n : ℕ) → i.place ≡ n → StandsAfter j.stage j n (i.held.items ++ more))
    → Standing i came before fan → Standing j (came ++ more) before fan
restage i j came more before fan is_open same count next s =
    let was : StandsAfter stages.Open i (length (all_bytes s.packets)) s.rest = subst (λ (t : Stage). StandsAfter t i (length (all_bytes s.packets)) s.rest) is_open s.stands in
    record {
      packets = s.packets;
      rest = i.held.items ++ more;
      each = subst (λ (e : Expect). AllByRecursion (IsCarried e) s.packets) (sym same) s.each;
      encoded =
          ap (λ (l : List ℕ). l ++ more) (s.encoded ∙ ap (λ (l : List ℕ). all_bytes s.packets ++ l) was.0)
          ∙ append_assoc (all_bytes s.packets) i.held.items more;
      stands = next (length (all_bytes s.packets)) was.1;
      handed = s.handed;
      count = count ∙ ap (λ (n : ℕ). n + length more) s.count ∙ sym (length-append came more);
    }

-- ---- a packet is handed on

all-more : {X : Type 0} (P : X → Type 0) (xs : List X) (x : X) → AllByRecursion P xs → P x → AllByRecursion P (xs ++ x ∷ [])
all-more P [] x all p = (p, tt)
all-more P (y ∷ xs) x all p = (all.0, all-more P xs x all.1 p)

-- the parcels of a stream, with one more
parcels-more : (s : ℕ) (packets : List Packet) (p : Packet) → parcels_of s (packets ++ p ∷ []) ≡ parcels_of s packets ++ parcels_of s (p ∷ [])
parcels-more s packets p =
    ap (map parcel_of) (filter-append (λ (q : Packet). q.head.stream == s) packets (p ∷ []))
    ∙ map-append parcel_of (stream_packets s packets) (stream_packets s (p ∷ []))

-- a parcel is given to its stream
pub handed-more : (before fan next : Fan) (packets : List Packet) (p : Packet) → HandsOn before fan packets → p.head.stream < stream_count fan
    → stream_count next ≡ stream_count fan
    → all_given next ≡ slice_set (all_given fan) p.head.stream (given fan p.head.stream ++ parcel_of p ∷ [])
    → HandsOn before next (packets ++ p ∷ [])
handed-more before fan next packets p handed inside count set_ = record {
  streams = count ∙ handed.streams;
  given = λ s below.
      let here : p.head.stream < length (all_given fan) = subst (λ (n : ℕ). p.head.stream < n) (sym (length-map fan.feeds.items feed_given)) inside in
      ap (λ (l : List (List Parcel)). slice_index_or l s []) set_
      ∙ ⊎_elim
      (λ (same : s ≡ p.head.stream).
      subst (λ (t : ℕ). t < stream_count before → slice_index_or (slice_set (all_given fan) p.head.stream (given fan p.head.stream ++ parcel_of p ∷ [])) t [] ≡ given before t ++ parcels_of t (packets ++ p ∷ [])) (sym same)
      (λ low.
      get_or-set_same (all_given fan) p.head.stream (given fan p.head.stream ++ parcel_of p ∷ []) [] here
      ∙ ap (λ (l : List Parcel). l ++ parcel_of p ∷ []) (handed.given p.head.stream low)
      ∙ append_assoc (given before p.head.stream) (parcels_of p.head.stream packets) (parcel_of p ∷ [])
      ∙ ap (λ (l : List Parcel). given before p.head.stream ++ (parcels_of p.head.stream packets ++ l)) (sym (its_own p))
      ∙ ap (λ (l : List Parcel). given before p.head.stream ++ l) (sym (parcels-more p.head.stream packets p))) below)
      (λ (away : s ≡ p.head.stream → ⊥).
      get_or-set_other (all_given fan) p.head.stream s (given fan p.head.stream ++ parcel_of p ∷ []) [] away
      ∙ handed.given s below
      ∙ ap (λ (l : List Parcel). given before s ++ l) (sym (append-nil (parcels_of s packets)))
      ∙ ap (λ (l : List Parcel). given before s ++ (parcels_of s packets ++ l)) (sym (of_another p s (λ e. away (sym e))))
      ∙ ap (λ (l : List Parcel). given before s ++ l) (sym (parcels-more s packets p))) (cases_eq s p.head.stream);
} where
  its_own : (p : Packet) → parcels_of p.head.stream (p ∷ []) ≡ parcel_of p ∷ []
  its_own p = ap (λ b. map parcel_of (if b then p ∷ [] else [])) (eq-eqb p.head.stream p.head.stream refl)

  of_another : (p : Packet) (s : ℕ) → (p.head.stream ≡ s → ⊥) → parcels_of s (p ∷ []) ≡ []
  of_another p s away = ap (λ b. map parcel_of (if b then p ∷ [] else [])) (ne_eqb p.head.stream s away)

-- nothing is given
pub handed-still : (before fan next : Fan) (packets : List Packet) → HandsOn before fan packets → stream_count next ≡ stream_count fan
    → all_given next ≡ all_given fan → HandsOn before next packets
handed-still before fan next packets handed count same = record {
  streams = count ∙ handed.streams;
  given = λ s below. ap (λ (l : List (List Parcel)). slice_index_or l s []) same ∙ handed.given s below;
}

-- the packet that is gathered was handed on
pub handed-on : (i j : Intake) (came : List ℕ) (before fan next : Fan) (head : Header) → i.stage ≡ stages.Open → j.stage ≡ stages.Open
    → j.expect ≡ i.expect → j.came ≡ i.came → j.held.items ≡ [] → j.place ≡ i.place + length i.held.items
    → BeginsWith i.expect i.held.items head → packet_size head ≡ length i.held.items → IsTrue (carries head.kind)
    → ((packets : List Packet) → HandsOn before fan packets → HandsOn before next (packets ++ packet_at head i.held.items ∷ []))
    → Standing i came before fan → Standing j came before next
handed-on i j came before fan next head is_open opens same count none place begins exact does on s =
    let was : StandsAfter stages.Open i (length (all_bytes s.packets)) s.rest = subst (λ (t : Stage). StandsAfter t i (length (all_bytes s.packets)) s.rest) is_open s.stands in
    let p = packet_at head i.held.items in
    let stood = packet_was i.expect i.held.items head begins in
    let whole : i.held.items ≡ packet_bytes p =
    stood.1 ∙ ap (λ (l : List ℕ). packet_bytes p ++ l) (drop_all (packet_size head) i.held.items (omega (arith, exact))) ∙ append-nil (packet_bytes p) in
    let joined : all_bytes (s.packets ++ p ∷ []) ≡ all_bytes s.packets ++ i.held.items =
    flat_map-append packet_bytes s.packets (p ∷ []) ∙ ap (λ (l : List ℕ). all_bytes s.packets ++ l) (append-nil (packet_bytes p) ∙ sym whole) in
    let each : AllByRecursion (IsCarried i.expect) (s.packets ++ p ∷ []) = all-more (IsCarried i.expect) s.packets p s.each (record { sound = stood.0; carries = does }) in
    record {
      packets = s.packets ++ p ∷ [];
      rest = [];
      each = subst (λ (e : Expect). AllByRecursion (IsCarried e) (s.packets ++ p ∷ [])) (sym same) each;
      encoded = s.encoded ∙ ap (λ (l : List ℕ). all_bytes s.packets ++ l) was.0 ∙ sym joined ∙ sym (append-nil (all_bytes (s.packets ++ p ∷ [])));
      stands =
          subst (λ (t : Stage). StandsAfter t j (length (all_bytes (s.packets ++ p ∷ []))) []) (sym opens)
          (sym none, place ∙ omega (arith, was.1, ap (λ (l : List ℕ). length l) joined, length-append (all_bytes s.packets) i.held.items));
      handed = on s.packets s.handed;
      count = count ∙ s.count;
    }

-- memory ran out, and the packet that is gathered is lost
pub lost : (i j : Intake) (came : List ℕ) (before fan next : Fan) → j.stage ≡ stages.NoMemory
    → j.expect ≡ i.expect → j.came ≡ i.came → ((packets : List Packet) → HandsOn before fan packets → HandsOn before next packets)
    → Standing i came before fan → Standing j came before next
lost i j came before fan next stage same count on s = record {
  packets = s.packets;
  rest = s.rest;
  each = subst (λ (e : Expect). AllByRecursion (IsCarried e) s.packets) (sym same) s.each;
  encoded = s.encoded;
  stands = subst (λ (t : Stage). StandsAfter t j (length (all_bytes s.packets)) s.rest) (sym stage) tt;
  handed = on s.packets s.handed;
  count = count ∙ s.count;
}

-- a stage that isn't open
pub shut : (stage : Stage) → ((stage ≡ stages.Ended) ⊎ ((stage ≡ stages.Aborted) ⊎ (((x : Cause) × (stage ≡ stages.Bad x)) ⊎ (stage ≡ stages.NoMemory))))
    → stage ≡ stages.Open → ⊥
shut stage (inl is) opens = let clash : stages.Ended ≡ stages.Open = sym is ∙ opens in absurd cc
shut stage (inr (inl is)) opens = let clash : stages.Aborted ≡ stages.Open = sym is ∙ opens in absurd cc
shut stage (inr (inr (inl is))) opens = let clash : stages.Bad is.0 ≡ stages.Open = sym is.1 ∙ opens in absurd cc
shut stage (inr (inr (inr is))) opens = let clash : stages.NoMemory ≡ stages.Open = sym is ∙ opens in absurd cc

-- a stage that isn't want of memory
pub kept : (stage : Stage) → ((stage ≡ stages.Open) ⊎ ((stage ≡ stages.Ended) ⊎ ((stage ≡ stages.Aborted) ⊎ ((x : Cause) × (stage ≡ stages.Bad x)))))
    → stage ≡ stages.NoMemory → ⊥
kept stage (inl is) none = let clash : stages.Open ≡ stages.NoMemory = sym is ∙ none in absurd cc
kept stage (inr (inl is)) none = let clash : stages.Ended ≡ stages.NoMemory = sym is ∙ none in absurd cc
kept stage (inr (inr (inl is))) none = let clash : stages.Aborted ≡ stages.NoMemory = sym is ∙ none in absurd cc
kept stage (inr (inr (inr is))) none = let clash : stages.Bad is.0 ≡ stages.NoMemory = sym is.1 ∙ none in absurd cc
