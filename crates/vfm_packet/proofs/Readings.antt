-- What is read of a channel is a reading of it, and no refusal means that it is sound.
use Rattle.std.proofs.Common.{◌≡◌, ℕ, zero, suc, ◌+◌, ◌<◌, ◌≤◌, Bool, true, false, List, [], ◌∷◌, ◌++◌, length, drop, Option, Some, None, refl, sym, ap, subst, ◌∙◌, inl, inr, append_assoc, zero-add, arith}
use Rattle.std.specs.List.{AllByRecursion}
use Rattle.std.proofs.lemmas.Bool.{cases_lt, lt-ltb, le-ltb, ltb-true, ltb-false}
use Rattle.std.proofs.lemmas.List.{length-append, length-take, length-drop, take_all}
use Rattle.vfm_packet.specs.declared.header.Header.{Header}
use Rattle.vfm_packet.specs.declared.header.Kind.{Kind}
use Rattle.vfm_packet.specs.declared.header.Kind.TheVariants.{Data, Config, End, Abort}
use Rattle.vfm_packet.specs.declared.answer.Expect.{Expect}
use Rattle.vfm_packet.specs.declared.answer.Decoded.{Decoded}
use Rattle.vfm_packet.specs.declared.answer.Decoded.TheVariants as answers
use Rattle.vfm_base.specs.Words.{IsBytes}
use Rattle.vfm_packet.specs.Header.{carries}
use Rattle.vfm_packet.specs.Packet.{Packet, packet_at, packet_bytes, packet_size, IsSoundPacket}
use Rattle.vfm_packet.specs.Answer.{decoded, BeginsWith, IsPartial}
use Rattle.vfm_packet.specs.Channel.{IsCarried, all_bytes, Stands, mark_size, IsSoundChannel}
use Rattle.vfm_packet.specs.ChannelRefusal.{ChannelRefusal, Bad, Aborted, judged, is_over, IsVerdict, IsReading}
use Rattle.vfm_packet.specs.Reading.{Reading, ends, brings, brings_all, unfinished, after_end, on_packet, on_answer, reading_of, reading_at, reading_within}
use Rattle.vfm_base.proofs.NumbersInBytes.{IsBytes-drop, IsBytes-take}
use Rattle.vfm_packet.proofs.Decoding.{Reads, reads}
use Rattle.vfm_packet.proofs.Packets.{length-packet_bytes, packet_was}
use Rattle.vfm_packet.proofs.Channels.{mark_len, goes_on, is_the_reading}

-- how many bytes are judged
abbrev IsJudged : ℕ → Bool → ℕ → Type 0
IsJudged limit true total = total ≡ limit + 1
IsJudged limit false total = total ≤ limit

-- a reading from a place on
record Sees (limit : ℕ) (e : Expect) (over : Bool) (place : ℕ) (rest : List ℕ) (r : Reading) : Type 0 where
  back : List ℕ
  each : AllByRecursion (IsCarried e) r.packets
  encoded : rest ≡ all_bytes r.packets ++ back
  verdict : IsVerdict limit e over (place + length (all_bytes r.packets)) back r.refusal

sees_nothing : (limit : ℕ) (e : Expect) (over : Bool) (place : ℕ) (rest : List ℕ) (refusal : Option ChannelRefusal)
    → IsVerdict limit e over place rest refusal → Sees limit e over place rest (ends refusal)
sees_nothing limit e over place rest refusal verdict =
    let stays : place ≡ place + 0 = omega arith in
    record { back = rest; each = tt; encoded = refl; verdict = subst (λ (p : ℕ). IsVerdict limit e over p rest refusal) stays verdict }

sees_packet : (limit : ℕ) (e : Expect) (over : Bool) (place : ℕ) (rest : List ℕ) (p : Packet) (after : List ℕ) (r : Reading)
    → IsCarried e p → rest ≡ packet_bytes p ++ after → Sees limit e over (place + packet_size p.head) after r → Sees limit e over place rest (brings p r)
sees_packet limit e over place rest p after r is parts sees =
    let next : place + packet_size p.head + length (all_bytes r.packets) ≡ place + length (all_bytes (p ∷ r.packets)) =
    omega (arith, length-append (packet_bytes p) (all_bytes r.packets), length-packet_bytes p is.sound.len) in
    record {
      back = sees.back;
      each = (is, sees.each);
      encoded = parts ∙ ap (λ (l : List ℕ). packet_bytes p ++ l) sees.encoded ∙ sym (append_assoc (packet_bytes p) (all_bytes r.packets) sees.back);
      verdict = subst (λ (n : ℕ). IsVerdict limit e over n sees.back r.refusal) next sees.verdict;
    }

says_unfinished : (limit : ℕ) (e : Expect) (over : Bool) (place : ℕ) (rest : List ℕ) → IsPartial e rest → IsVerdict limit e over place rest (unfinished over place rest)
says_unfinished limit e true place rest partial = (refl, inl partial)
says_unfinished limit e false place [] partial = (refl, refl, refl)
says_unfinished limit e false place (b ∷ rest) partial = (refl, refl, omega arith, partial)

says_end : (limit : ℕ) (e : Expect) (over : Bool) (place : ℕ) (rest more : List ℕ) → Stands e End rest more → IsJudged limit over (place + mark_size e + length more)
    → IsVerdict limit e over place rest (after_end limit over (place + mark_size e) more)
says_end limit e true place rest [] there total = (refl, inr ([], there, omega arith))
says_end limit e false place rest [] there total = (refl, there)
says_end limit e true place rest (b ∷ more) there total =
    elim (cases_lt (place + mark_size e) limit) [
      | inl below ↦ rw (lt-ltb (place + mark_size e) limit below) (refl, below, (b, more, there))
      | inr past ↦ rw (le-ltb (place + mark_size e) limit past) (refl, inr (b ∷ more, there, past))
    ]
says_end limit e false place rest (b ∷ more) there total =
    let below : place + mark_size e < limit = omega arith in
    rw (lt-ltb (place + mark_size e) limit below) (refl, below, (b, more, there))

-- the packet that is read at a place stands there
pub packet_stands : (e : Expect) (rest : List ℕ) (h : Header) (used : ℕ) → BeginsWith e rest h → used ≡ packet_size h
    → IsSoundPacket e (packet_at h rest) × (rest ≡ packet_bytes (packet_at h rest) ++ drop used rest)
packet_stands e rest h used begins size =
    let was = packet_was e rest h begins in
    (was.0, was.1 ∙ ap (λ (n : ℕ). packet_bytes (packet_at h rest) ++ drop n rest) (sym size))

judged_after : (limit : ℕ) (over : Bool) (total sum : ℕ) → total ≡ sum → IsJudged limit over total → IsJudged limit over sum
judged_after limit over total sum same is = subst (λ (n : ℕ). IsJudged limit over n) same is

sees_kind : (kind : Kind) (limit : ℕ) (e : Expect) (over : Bool) (place : ℕ) (rest : List ℕ) (h : Header) (used : ℕ) (go : ℕ → List ℕ → Reading)
    → h.kind ≡ kind → BeginsWith e rest h → used ≡ packet_size h → IsJudged limit over (place + length rest)
    → Sees limit e over (place + packet_size h) (drop used rest) (go (place + used) (drop used rest))
    → Sees limit e over place rest (on_packet kind limit over place rest h used go)
sees_kind Data limit e over place rest h used go of_kind begins size total next =
    let there = packet_stands e rest h used begins size in
    sees_packet limit e over place rest (packet_at h rest) (drop used rest) (go (place + used) (drop used rest)) (record { sound = there.0; carries = ap carries of_kind }) there.1 next
sees_kind Config limit e over place rest h used go of_kind begins size total next =
    let there = packet_stands e rest h used begins size in
    sees_packet limit e over place rest (packet_at h rest) (drop used rest) (go (place + used) (drop used rest)) (record { sound = there.0; carries = ap carries of_kind }) there.1 next
sees_kind End limit e over place rest h used go of_kind begins size total next =
    let there = packet_stands e rest h used begins size in
    let stands : Stands e End rest (drop used rest) = record { packet = packet_at h rest; sound = there.0; of_kind = of_kind; encoded = there.1 } in
    let mark : used ≡ mark_size e = size ∙ mark_len End e (packet_at h rest) refl of_kind there.0 in
    let whole = begins.whole in
    let sum : place + length rest ≡ place + mark_size e + length (drop used rest) = omega (arith, length-drop used rest) in
    sees_nothing limit e over place rest (after_end limit over (place + used) (drop used rest))
    (subst (λ (n : ℕ). IsVerdict limit e over place rest (after_end limit over (place + n) (drop used rest))) (sym mark)
    (says_end limit e over place rest (drop used rest) stands (judged_after limit over (place + length rest) (place + mark_size e + length (drop used rest)) sum total)))
sees_kind Abort limit e over place rest h used go of_kind begins size total next =
    let there = packet_stands e rest h used begins size in
    let stands : Stands e Abort rest (drop used rest) = record { packet = packet_at h rest; sound = there.0; of_kind = of_kind; encoded = there.1 } in
    sees_nothing limit e over place rest (Some (Aborted place)) (refl, (drop used rest, stands))

sees_answer : (d : Decoded) (limit : ℕ) (e : Expect) (over : Bool) (place : ℕ) (rest : List ℕ) (go : ℕ → List ℕ → Reading)
    → Reads e rest d → IsJudged limit over (place + length rest)
    → ((h : Header) (used : ℕ) → BeginsWith e rest h → used ≡ packet_size h → Sees limit e over (place + packet_size h) (drop used rest) (go (place + used) (drop used rest)))
    → Sees limit e over place rest (on_answer d limit over place rest go)
sees_answer (answers.Packet h used) limit e over place rest go is total next =
    sees_kind h.kind limit e over place rest h used go refl is.0 is.1 total (next h used is.0 is.1)
sees_answer answers.More limit e over place rest go is total next =
    sees_nothing limit e over place rest (unfinished over place rest) (says_unfinished limit e over place rest is)
sees_answer (answers.Bad cause) limit e over place rest go is total next =
    sees_nothing limit e over place rest (Some (Bad place cause)) (refl, is)

sees : (n limit : ℕ) (e : Expect) (over : Bool) (place : ℕ) (rest : List ℕ) → IsBytes rest → length rest ≤ n → IsJudged limit over (place + length rest)
    → Sees limit e over place rest (reading_of n limit e over place rest)
unfolding reading_of
sees zero limit e over place rest fits in_n total =
    let few : length rest < 40 = omega arith in
    sees_nothing limit e over place rest (unfinished over place rest) (says_unfinished limit e over place rest (inl few))
sees (suc n) limit e over place rest fits in_n total =
    sees_answer (decoded e rest) limit e over place rest (λ next after. reading_of n limit e over next after) (reads e rest fits) total
    (λ h used begins size.
    let whole = begins.whole in
    let shorter = length-drop used rest in
    let here : place + used ≡ place + packet_size h = omega (arith, size) in
    let sum : place + length rest ≡ place + used + length (drop used rest) = omega (arith, size) in
    subst (λ (p : ℕ). Sees limit e over p (drop used rest) (reading_of n limit e over (place + used) (drop used rest))) here
    (sees n limit e over (place + used) (drop used rest) (IsBytes-drop used rest fits) (omega (arith, size))
    (judged_after limit over (place + length rest) (place + used + length (drop used rest)) sum total)))

judged_total : (limit : ℕ) (bytes : List ℕ) (over : Bool) → is_over limit bytes ≡ over → IsJudged limit over (0 + length (judged limit bytes))
judged_total limit bytes true is = omega (arith, ltb-true limit (length bytes) is, length-take (limit + 1) bytes)
judged_total limit bytes false is = omega (arith, ltb-false limit (length bytes) is, length-take (limit + 1) bytes)

-- what is read is a reading
pub reads_channel : (limit : ℕ) (e : Expect) (bytes : List ℕ) → IsBytes bytes
    → IsReading limit e bytes (reading_within limit e bytes).packets (reading_within limit e bytes).refusal
reads_channel limit e bytes fits =
    let s = sees (length (judged limit bytes)) limit e (is_over limit bytes) 0 (judged limit bytes) (IsBytes-take (limit + 1) bytes fits) (omega arith)
    (judged_total limit bytes (is_over limit bytes) refl) in
    record {
      rest = s.back;
      each = s.each;
      encoded = s.encoded;
      verdict = subst (λ (n : ℕ). IsVerdict limit e (is_over limit bytes) n s.back (reading_within limit e bytes).refusal)
          (zero-add (length (all_bytes (reading_within limit e bytes).packets))) s.verdict;
    }

-- ---- sound channels

-- all of a channel is judged that is no longer than a byte past the limit
pub judged_all : (limit : ℕ) (bytes : List ℕ) → length bytes ≤ limit + 1 → judged limit bytes ≡ bytes
judged_all limit bytes short = take_all (limit + 1) bytes short

pub sound_reads : (limit : ℕ) (e : Expect) (bytes : List ℕ) (packets : List Packet) → IsSoundChannel e bytes packets → length bytes ≤ limit
    → reading_within limit e bytes ≡ record { packets = packets; refusal = None }
sound_reads limit e bytes packets is short =
    is_the_reading limit e bytes packets None (record {
      rest = is.rest;
      each = is.each;
      encoded = judged_all limit bytes (omega arith) ∙ is.encoded;
      verdict = (le-ltb limit (length bytes) short, is.ends);
    })

pub reads_sound : (limit : ℕ) (e : Expect) (bytes : List ℕ) → IsBytes bytes → (reading_within limit e bytes).refusal ≡ None
    → IsSoundChannel e bytes (reading_within limit e bytes).packets × (length bytes ≤ limit)
reads_sound limit e bytes fits none =
    let is = reads_channel limit e bytes fits in
    let packets = (reading_within limit e bytes).packets in
    let verdict = subst (λ (r : Option ChannelRefusal). IsVerdict limit e (is_over limit bytes) (length (all_bytes (reading_within limit e bytes).packets)) is.rest r) none is.verdict in
    let short : length bytes ≤ limit = ltb-false limit (length bytes) verdict.0 in
    (record { rest = is.rest; each = is.each; encoded = sym (judged_all limit bytes (omega arith)) ∙ is.encoded; ends = verdict.1 }, short)

-- nothing after the first byte past the limit is looked at
pub judged_prefix : (limit : ℕ) (e : Expect) (bytes : List ℕ) → reading_within limit e (judged limit bytes) ≡ reading_within limit e bytes
judged_prefix limit e bytes =
    let over : is_over limit (judged limit bytes) ≡ is_over limit bytes =
    elim (cases_lt limit (length bytes)) [
      | inl past ↦ lt-ltb limit (length (judged limit bytes)) (omega (arith, length-take (limit + 1) bytes)) ∙ sym (lt-ltb limit (length bytes) past)
      | inr short ↦ le-ltb limit (length (judged limit bytes)) (omega (arith, length-take (limit + 1) bytes)) ∙ sym (le-ltb limit (length bytes) short)
    ] in
    ap (λ (o : Bool). reading_at limit e o 0 (judged limit (judged limit bytes))) over
    ∙ ap (λ (l : List ℕ). reading_at limit e (is_over limit bytes) 0 l) (judged_all limit (judged limit bytes) (omega (arith, length-take (limit + 1) bytes)))

-- a packet that is decoded was encoded
pub decoded_was : (e : Expect) (bytes : List ℕ) (h : Header) (used : ℕ) → IsBytes bytes → decoded e bytes ≡ answers.Packet h used
    → IsSoundPacket e (packet_at h bytes) × (bytes ≡ packet_bytes (packet_at h bytes) ++ drop used bytes)
decoded_was e bytes h used fits is =
    let found = subst (λ (d : Decoded). Reads e bytes d) is (reads e bytes fits) in
    packet_stands e bytes h used found.0 found.1

-- of what came of a channel, packets are brought, and the reading goes on after them
pub received :
    (packets : List Packet) (limit : ℕ) (e : Expect) (rest : List ℕ) → AllByRecursion (IsCarried e) packets
    → length (all_bytes packets ++ rest) ≤ limit + 1
    → reading_within limit e (all_bytes packets ++ rest)
    ≡ brings_all packets (reading_at limit e (is_over limit (all_bytes packets ++ rest)) (length (all_bytes packets)) rest)
received packets limit e rest each short =
    ap (λ (l : List ℕ). reading_at limit e (is_over limit (all_bytes packets ++ rest)) 0 l) (judged_all limit (all_bytes packets ++ rest) short)
    ∙ goes_on packets limit e (is_over limit (all_bytes packets ++ rest)) 0 rest each
    ∙ ap (λ (n : ℕ). brings_all packets (reading_at limit e (is_over limit (all_bytes packets ++ rest)) n rest)) (zero-add (length (all_bytes packets)))
