-- Whole channels: each has exactly one reading, which goes on from place to place.
use Rattle.std.proofs.Common.{◌≡◌, ℕ, zero, suc, ◌+◌, ◌<◌, ◌≤◌, Bool, true, false, cond, List, [], ◌∷◌, ◌++◌, length, drop, Option, Some, None, refl, sym, ap, subst, ◌∙◌, inl, inr, append_assoc, zero-add, arith}
use Rattle.std.specs.Prelude.{IsTrue}
use Rattle.std.specs.List.{AllByRecursion}
use Rattle.std.proofs.lemmas.Bool.{cases_lt, lt-ltb, le-ltb}
use Rattle.std.proofs.lemmas.List.{length-append, length-drop, append-nil}
use Rattle.vfm_packet.specs.declared.header.Header.{Header}
use Rattle.vfm_packet.specs.declared.header.Kind.{Kind}
use Rattle.vfm_packet.specs.declared.header.Kind.TheVariants.{Data, Config, End, Abort}
use Rattle.vfm_packet.specs.declared.answer.Expect.{Expect}
use Rattle.vfm_packet.specs.declared.answer.Cause.{Cause}
use Rattle.vfm_packet.specs.declared.answer.Cause.TheVariants.{Corrupt}
use Rattle.vfm_packet.specs.declared.answer.Decoded.{Decoded}
use Rattle.vfm_packet.specs.declared.answer.Decoded.TheVariants as answers
use Rattle.vfm_packet.specs.Header.{carries, HasHeaderShape}
use Rattle.vfm_packet.specs.Sound.{head_at, head_fault}
use Rattle.vfm_packet.specs.Packet.{Packet, packet_at, packet_bytes, packet_size, seal_len, IsSoundPacket}
use Rattle.vfm_packet.specs.Answer.{is_sealed, decoded, decoded_head, decoded_after, IsPartial}
use Rattle.vfm_packet.specs.Channel.{IsCarried, all_bytes, Stands, mark_size}
use Rattle.vfm_packet.specs.ChannelRefusal.{ChannelRefusal, Bad, Aborted, Truncated, NoEnd, AfterEnd, TooLong, is_over, IsVerdict, IsReading}
use Rattle.vfm_packet.specs.Reading.{Reading, ends, brings, brings_all, unfinished, after_end, on_packet, on_answer, reading_of, reading_at, reading_within}
use Rattle.vfm_packet.proofs.Decoding.{partial_reads, refused_reads}
use Rattle.vfm_packet.proofs.Packets.{length-packet_bytes, packet_again, packet_at-packet_bytes, after_packet}

-- ---- one step of a reading

-- what follows a packet is shorter
sealed_size : (b : Bool) (h g : Header) (used : ℕ) → cond b (answers.Packet h (packet_size h)) (answers.Bad Corrupt) ≡ answers.Packet g used → 40 ≤ used
sealed_size true h g used is = let size : packet_size h ≡ used = cc in omega (arith, size)
sealed_size false h g used is = absurd cc

head_size : (h g : Header) (bytes : List ℕ) (used : ℕ) → decoded_head h bytes ≡ answers.Packet g used → 40 ≤ used
head_size h g bytes used is =
    elim (cases_lt (length bytes) (packet_size h)) [
      | inl short ↦
          let more : decoded_head h bytes ≡ answers.More = rw (lt-ltb (length bytes) (packet_size h) short) refl in
          absurd cc
      | inr whole ↦
          let there : decoded_head h bytes ≡ cond (is_sealed h bytes) (answers.Packet h (packet_size h)) (answers.Bad Corrupt) =
          rw (le-ltb (length bytes) (packet_size h) whole) refl in
          sealed_size (is_sealed h bytes) h g used (sym there ∙ is)
    ]

after_size : (o : Option Cause) (bytes : List ℕ) (h : Header) (used : ℕ) → decoded_after o bytes ≡ answers.Packet h used → 40 ≤ used
after_size (Some cause) bytes h used is = absurd cc
after_size None bytes h used is = head_size (head_at bytes) h bytes used is

packet_long : (e : Expect) (bytes : List ℕ) (h : Header) (used : ℕ) → decoded e bytes ≡ answers.Packet h used → 40 ≤ used
unfolding decoded
packet_long e bytes h used is =
    elim (cases_lt (length bytes) 40) [
      | inl few ↦
          let more : decoded e bytes ≡ answers.More = rw (lt-ltb (length bytes) 40 few) refl in
          absurd cc
      | inr long ↦
          let there : decoded e bytes ≡ decoded_after (head_fault e bytes) bytes = rw (le-ltb (length bytes) 40 long) refl in
          after_size (head_fault e bytes) bytes h used (sym there ∙ is)
    ]

same_packet : (kind : Kind) (limit : ℕ) (over : Bool) (place : ℕ) (rest : List ℕ) (h : Header) (used : ℕ) (f g : ℕ → List ℕ → Reading)
    → f (place + used) (drop used rest) ≡ g (place + used) (drop used rest)
    → on_packet kind limit over place rest h used f ≡ on_packet kind limit over place rest h used g
same_packet Data limit over place rest h used f g same = ap (brings (packet_at h rest)) same
same_packet Config limit over place rest h used f g same = ap (brings (packet_at h rest)) same
same_packet End limit over place rest h used f g same = refl
same_packet Abort limit over place rest h used f g same = refl

same_answer : (d : Decoded) (limit : ℕ) (over : Bool) (place : ℕ) (rest : List ℕ) (f g : ℕ → List ℕ → Reading)
    → ((h : Header) (used : ℕ) → d ≡ answers.Packet h used → f (place + used) (drop used rest) ≡ g (place + used) (drop used rest))
    → on_answer d limit over place rest f ≡ on_answer d limit over place rest g
same_answer (answers.Packet h used) limit over place rest f g same = same_packet h.kind limit over place rest h used f g (same h used refl)
same_answer answers.More limit over place rest f g same = refl
same_answer (answers.Bad cause) limit over place rest f g same = refl

at_nothing : (n limit : ℕ) (e : Expect) (over : Bool) (place : ℕ) → reading_of n limit e over place [] ≡ ends (unfinished over place [])
unfolding reading_of decoded
at_nothing zero limit e over place = refl
at_nothing (suc n) limit e over place = refl

-- the count of packets that may come doesn't matter where it isn't less than the bytes
pub enough : (n m limit : ℕ) (e : Expect) (over : Bool) (place : ℕ) (rest : List ℕ) → length rest ≤ n → length rest ≤ m
    → reading_of n limit e over place rest ≡ reading_of m limit e over place rest
unfolding reading_of
enough n m limit e over place [] in_n in_m = at_nothing n limit e over place ∙ sym (at_nothing m limit e over place)
enough zero m limit e over place (b ∷ rest) in_n in_m = absurd (omega arith)
enough (suc n) zero limit e over place (b ∷ rest) in_n in_m = absurd (omega arith)
enough (suc n) (suc m) limit e over place (b ∷ rest) in_n in_m =
    same_answer (decoded e (b ∷ rest)) limit over place (b ∷ rest)
    (λ next after. reading_of n limit e over next after) (λ next after. reading_of m limit e over next after)
    (λ h used is.
    let long = packet_long e (b ∷ rest) h used is in
    let shorter = length-drop used (b ∷ rest) in
    enough n m limit e over (place + used) (drop used (b ∷ rest)) (omega arith) (omega arith))

pub step : (limit : ℕ) (e : Expect) (over : Bool) (place : ℕ) (rest : List ℕ)
    → reading_at limit e over place rest ≡ on_answer (decoded e rest) limit over place rest (λ next after. reading_at limit e over next after)
unfolding reading_of decoded
step limit e over place [] = at_nothing 1 limit e over place
step limit e over place (b ∷ rest) =
    same_answer (decoded e (b ∷ rest)) limit over place (b ∷ rest)
    (λ next after. reading_of (length rest) limit e over next after) (λ next after. reading_at limit e over next after)
    (λ h used is.
    let long = packet_long e (b ∷ rest) h used is in
    let shorter = length-drop used (b ∷ rest) in
    enough (length rest) (length (drop used (b ∷ rest))) limit e over (place + used) (drop used (b ∷ rest)) (omega arith) (omega arith))

-- a data or config packet at the place
on_carried : (kind : Kind) → IsTrue (carries kind) → (limit : ℕ) (over : Bool) (place : ℕ) (rest : List ℕ) (h : Header) (used : ℕ) (go : ℕ → List ℕ → Reading)
    → on_packet kind limit over place rest h used go ≡ brings (packet_at h rest) (go (place + used) (drop used rest))
on_carried Data c limit over place rest h used go = refl
on_carried Config c limit over place rest h used go = refl
on_carried End c limit over place rest h used go = absurd cc
on_carried Abort c limit over place rest h used go = absurd cc

pub step_carried : (limit : ℕ) (e : Expect) (over : Bool) (place : ℕ) (rest : List ℕ) (h : Header) (used : ℕ)
    → decoded e rest ≡ answers.Packet h used → IsTrue (carries h.kind)
    → reading_at limit e over place rest ≡ brings (packet_at h rest) (reading_at limit e over (place + used) (drop used rest))
step_carried limit e over place rest h used is c =
    step limit e over place rest
    ∙ ap (λ (d : Decoded). on_answer d limit over place rest (λ next after. reading_at limit e over next after)) is
    ∙ on_carried h.kind c limit over place rest h used (λ next after. reading_at limit e over next after)

pub step_end : (limit : ℕ) (e : Expect) (over : Bool) (place : ℕ) (rest : List ℕ) (h : Header) (used : ℕ)
    → decoded e rest ≡ answers.Packet h used → h.kind ≡ End
    → reading_at limit e over place rest ≡ ends (after_end limit over (place + used) (drop used rest))
step_end limit e over place rest h used is kind =
    step limit e over place rest
    ∙ ap (λ (d : Decoded). on_answer d limit over place rest (λ next after. reading_at limit e over next after)) is
    ∙ ap (λ (k : Kind). on_packet k limit over place rest h used (λ next after. reading_at limit e over next after)) kind

pub step_abort : (limit : ℕ) (e : Expect) (over : Bool) (place : ℕ) (rest : List ℕ) (h : Header) (used : ℕ)
    → decoded e rest ≡ answers.Packet h used → h.kind ≡ Abort
    → reading_at limit e over place rest ≡ ends (Some (Aborted place))
step_abort limit e over place rest h used is kind =
    step limit e over place rest
    ∙ ap (λ (d : Decoded). on_answer d limit over place rest (λ next after. reading_at limit e over next after)) is
    ∙ ap (λ (k : Kind). on_packet k limit over place rest h used (λ next after. reading_at limit e over next after)) kind

pub step_more : (limit : ℕ) (e : Expect) (over : Bool) (place : ℕ) (rest : List ℕ) → decoded e rest ≡ answers.More
    → reading_at limit e over place rest ≡ ends (unfinished over place rest)
step_more limit e over place rest is =
    step limit e over place rest ∙ ap (λ (d : Decoded). on_answer d limit over place rest (λ next after. reading_at limit e over next after)) is

pub step_bad : (limit : ℕ) (e : Expect) (over : Bool) (place : ℕ) (rest : List ℕ) (cause : Cause) → decoded e rest ≡ answers.Bad cause
    → reading_at limit e over place rest ≡ ends (Some (Bad place cause))
step_bad limit e over place rest cause is =
    step limit e over place rest ∙ ap (λ (d : Decoded). on_answer d limit over place rest (λ next after. reading_at limit e over next after)) is

-- ---- packets that stand one after the other are brought, whatever follows

pub goes_on : (ps : List Packet) (limit : ℕ) (e : Expect) (over : Bool) (place : ℕ) (rest : List ℕ) → AllByRecursion (IsCarried e) ps
    → reading_at limit e over place (all_bytes ps ++ rest) ≡ brings_all ps (reading_at limit e over (place + length (all_bytes ps)) rest)
goes_on [] limit e over place rest each =
    let stays : place ≡ place + length (all_bytes []) = omega arith in
    ap (λ (p : ℕ). reading_at limit e over p rest) stays
goes_on (p ∷ ps) limit e over place rest each =
    let is = each.0.sound in
    let parts : all_bytes (p ∷ ps) ++ rest ≡ packet_bytes p ++ (all_bytes ps ++ rest) = append_assoc (packet_bytes p) (all_bytes ps) rest in
    let next : place + packet_size p.head + length (all_bytes ps) ≡ place + length (all_bytes (p ∷ ps)) =
    omega (arith, length-append (packet_bytes p) (all_bytes ps), length-packet_bytes p is.len) in
    ap (λ (l : List ℕ). reading_at limit e over place l) parts
    ∙ step_carried limit e over place (packet_bytes p ++ (all_bytes ps ++ rest)) p.head (packet_size p.head) (packet_again e p (all_bytes ps ++ rest) is) each.0.carries
    ∙ ap (λ (q : Packet). brings q (reading_at limit e over (place + packet_size p.head) (drop (packet_size p.head) (packet_bytes p ++ (all_bytes ps ++ rest)))))
    (packet_at-packet_bytes p (all_bytes ps ++ rest) is.len)
    ∙ ap (λ (l : List ℕ). brings p (reading_at limit e over (place + packet_size p.head) l)) (after_packet p (all_bytes ps ++ rest) is.len)
    ∙ ap (brings p) (goes_on ps limit e over (place + packet_size p.head) rest each.1)
    ∙ ap (λ (n : ℕ). brings p (brings_all ps (reading_at limit e over n rest))) next

-- ---- a reading is the one that is read

-- an end or abort packet has no payload
pub mark_len : (kind : Kind) (e : Expect) (p : Packet) → carries kind ≡ false → p.head.kind ≡ kind → IsSoundPacket e p → packet_size p.head ≡ mark_size e
mark_len kind e p bare of_kind is =
    let shape : HasHeaderShape false p.head = subst (λ (b : Bool). HasHeaderShape b p.head) (ap carries of_kind ∙ bare) is.head.header.shape in
    omega (arith, shape.2, ap seal_len is.head.version)

stands_reads : (e : Expect) (kind : Kind) (rest more : List ℕ) (there : Stands e kind rest more)
    → (decoded e rest ≡ answers.Packet there.packet.head (packet_size there.packet.head)) × (drop (packet_size there.packet.head) rest ≡ more)
stands_reads e kind rest more there =
    let p = there.packet in (
      ap (decoded e) there.encoded ∙ packet_again e there.packet more there.sound,
      ap (λ (l : List ℕ). drop (packet_size there.packet.head) l) there.encoded ∙ after_packet there.packet more there.sound.len,
    )

end_reads : (limit : ℕ) (e : Expect) (over : Bool) (place : ℕ) (rest more : List ℕ) → Stands e End rest more
    → reading_at limit e over place rest ≡ ends (after_end limit over (place + mark_size e) more)
end_reads limit e over place rest more there =
    let h = there.packet.head in
    let facts = stands_reads e End rest more there in
    let size = mark_len End e there.packet refl there.of_kind there.sound in
    step_end limit e over place rest there.packet.head (packet_size there.packet.head) facts.0 there.of_kind
    ∙ ap (λ (l : List ℕ). ends (after_end limit over (place + packet_size there.packet.head) l)) facts.1
    ∙ ap (λ (n : ℕ). ends (after_end limit over (place + n) more)) size

unfinished_some : (place : ℕ) (rest : List ℕ) → 0 < length rest → unfinished false place rest ≡ Some (Truncated place)
unfinished_some place [] some = absurd (omega arith)
unfinished_some place (b ∷ rest) some = refl

after_byte : (limit : ℕ) (over : Bool) (place byte : ℕ) (more : List ℕ) → place < limit → after_end limit over place (byte ∷ more) ≡ Some (AfterEnd place)
after_byte limit true place byte more below = rw (lt-ltb place limit below) refl
after_byte limit false place byte more below = rw (lt-ltb place limit below) refl

after_limit : (limit place : ℕ) (more : List ℕ) → limit ≤ place → after_end limit true place more ≡ Some TooLong
after_limit limit place [] past = refl
after_limit limit place (b ∷ more) past = rw (le-ltb place limit past) refl

more_reads : (limit : ℕ) (e : Expect) (over now : Bool) (place : ℕ) (rest : List ℕ) → over ≡ now → IsPartial e rest
    → reading_at limit e over place rest ≡ ends (unfinished now place rest)
more_reads limit e over now place rest is partial =
    step_more limit e over place rest (partial_reads e rest partial) ∙ ap (λ (o : Bool). ends (unfinished o place rest)) is

pub says_reads : (refusal : Option ChannelRefusal) (limit : ℕ) (e : Expect) (over : Bool) (place : ℕ) (rest : List ℕ)
    → IsVerdict limit e over place rest refusal → reading_at limit e over place rest ≡ ends refusal
says_reads None limit e over place rest verdict =
    end_reads limit e over place rest [] verdict.1 ∙ ap (λ (o : Bool). ends (after_end limit o (place + mark_size e) [])) verdict.0
says_reads (Some (Bad at cause)) limit e over place rest verdict =
    step_bad limit e over place rest cause (refused_reads e rest cause verdict.1) ∙ ap (λ (p : ℕ). ends (Some (Bad p cause))) (sym verdict.0)
says_reads (Some (Aborted at)) limit e over place rest verdict =
    let there = verdict.1.1 in
    step_abort limit e over place rest there.packet.head (packet_size there.packet.head) (stands_reads e Abort rest verdict.1.0 there).0 there.of_kind
    ∙ ap (λ (p : ℕ). ends (Some (Aborted p))) (sym verdict.0)
says_reads (Some (Truncated at)) limit e over place rest verdict =
    more_reads limit e over false place rest verdict.1 verdict.3 ∙ ap ends (unfinished_some place rest verdict.2) ∙ ap (λ (p : ℕ). ends (Some (Truncated p))) (sym verdict.0)
says_reads (Some (NoEnd at)) limit e over place rest verdict =
    let few : length rest < 40 = omega (arith, ap length verdict.2) in
    more_reads limit e over false place rest verdict.1 (inl few) ∙ ap (λ (l : List ℕ). ends (unfinished false place l)) verdict.2 ∙ ap (λ (p : ℕ). ends (Some (NoEnd p))) (sym verdict.0)
says_reads (Some (AfterEnd at)) limit e over place rest verdict =
    let below : place + mark_size e < limit = omega (arith, verdict.0, verdict.1) in
    end_reads limit e over place rest (verdict.2.0 ∷ verdict.2.1) verdict.2.2
    ∙ ap ends (after_byte limit over (place + mark_size e) verdict.2.0 verdict.2.1 below)
    ∙ ap (λ (p : ℕ). ends (Some (AfterEnd p))) (sym verdict.0)
says_reads (Some TooLong) limit e over place rest verdict =
    elim verdict.1 [
      | inl partial ↦ more_reads limit e over true place rest verdict.0 partial
      | inr past ↦
          end_reads limit e over place rest past.0 past.1
          ∙ ap (λ (o : Bool). ends (after_end limit o (place + mark_size e) past.0)) verdict.0
          ∙ ap ends (after_limit limit (place + mark_size e) past.0 past.2)
    ]

-- the one reading
pub is_the_reading : (limit : ℕ) (e : Expect) (bytes : List ℕ) (packets : List Packet) (refusal : Option ChannelRefusal)
    → IsReading limit e bytes packets refusal → reading_within limit e bytes ≡ record { packets = packets; refusal = refusal }
is_the_reading limit e bytes packets refusal is =
    let over = is_over limit bytes in
    ap (λ (l : List ℕ). reading_at limit e (is_over limit bytes) 0 l) is.encoded
    ∙ goes_on packets limit e (is_over limit bytes) 0 is.rest is.each
    ∙ ap (λ (n : ℕ). brings_all packets (reading_at limit e (is_over limit bytes) n is.rest)) (zero-add (length (all_bytes packets)))
    ∙ ap (brings_all packets) (says_reads refusal limit e (is_over limit bytes) (length (all_bytes packets)) is.rest is.verdict)
    ∙ ap (λ (ps : List Packet). let made : Reading = record { packets = ps; refusal = refusal } in made) (append-nil packets)
