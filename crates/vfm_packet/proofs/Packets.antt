-- Whole packets: what is encoded is read whatever follows, and what is read was encoded.
use Rattle.std.proofs.Common.{◌≡◌, ℕ, ◌+◌, ◌≤◌, true, List, [], ◌++◌, length, take, drop, Option, Some, None, refl, sym, ap, subst, ◌∙◌, inl, inr, append_assoc, arith}
use Rattle.std.specs.Prelude.{nat_eq}
use Rattle.std.specs.Int.{w16, w32, w64}
use Rattle.std.specs.List.{starts_with}
use Rattle.std.specs.Cmp.Lexicographic.{pointwise, bytes_decides}
use Rattle.std.proofs.lemmas.Bool.{cases_eq, cases_lt, lt-ltb, le-ltb, ne_eqb}
use Rattle.std.proofs.lemmas.List.{take-append-drop, length-append, length-take, length-drop, take_at, take_all, drop_at, drop-drop, take-append-le, drop-append-le}
use Rattle.sha2.specs.Sha256.{sha256}
use Rattle.sha2.proofs.Facts256.{length-sha256}
use Rattle.vfm_packet.specs.declared.header.Header.{Header}
use Rattle.vfm_packet.specs.declared.answer.Expect.{Expect}
use Rattle.vfm_packet.specs.declared.answer.Cause.{Cause}
use Rattle.vfm_packet.specs.declared.answer.Decoded.TheVariants as answers
use Rattle.vfm_packet.specs.Header.{head_bytes, IsHeader}
use Rattle.vfm_base.specs.Tests.{first_failed}
use Rattle.vfm_packet.specs.Sound.{head_at, head_tests, head_fault}
use Rattle.vfm_packet.specs.Packet.{Packet, packet_digest, seal, seal_len, packet_bytes, packet_size, packet_at, IsSoundPacket}
use Rattle.vfm_packet.specs.Answer.{is_sealed, decoded, decoded_head, decoded_after, BeginsWith}
use Rattle.vfm_base.proofs.NumbersInBytes.{word_stays}
use Rattle.vfm_packet.proofs.Words.{length-head_bytes}
use Rattle.vfm_packet.proofs.Heads.{head_at-head_bytes}
use Rattle.vfm_packet.proofs.Decoding.{packet_reads}

-- ---- headers have one encoding

pub one_head : (g h : Header) (x y : List ℕ) → IsHeader g → IsHeader h → head_bytes g ++ x ≡ head_bytes h ++ y → (g ≡ h) × (x ≡ y)
one_head g h x y is_g is_h e = (
  sym (head_at-head_bytes g x is_g) ∙ ap head_at e ∙ head_at-head_bytes h y is_h,
  sym (drop_at (head_bytes g) x 40 (length-head_bytes g)) ∙ ap (λ (l : List ℕ). drop 40 l) e ∙ drop_at (head_bytes h) y 40 (length-head_bytes h),
)

-- ---- seals

seal_len-le : (version : ℕ) → seal_len version ≤ 32
seal_len-le version =
    elim (cases_eq version 2) [
      | inl two ↦ rw two (omega arith)
      | inr other ↦ rw (ne_eqb version 2 other) (omega arith)
    ]

pub length-seal : (p : Packet) → length (seal p) ≡ seal_len p.head.version
length-seal p =
    let message = head_bytes p.head ++ p.payload in
    omega (arith, length-take (seal_len p.head.version) (sha256 message), length-sha256 message, seal_len-le p.head.version)

-- in version 1 nothing follows the payload
pub no_seal : (p : Packet) → p.head.version ≡ 1 → seal p ≡ []
no_seal p one = ap (λ (version : ℕ). take (seal_len version) (packet_digest p)) one

-- in version 2 the whole digest follows it
pub whole_seal : (p : Packet) → p.head.version ≡ 2 → seal p ≡ packet_digest p
whole_seal p two =
    let message = head_bytes p.head ++ p.payload in
    ap (λ (version : ℕ). take (seal_len version) (packet_digest p)) two
    ∙ take_all 32 (sha256 message) (omega (arith, length-sha256 message))

-- the seal is what follows the payload, exactly where the packet is sealed
sealed_when : (h : Header) (bytes : List ℕ) → take (seal_len h.version) (drop (40 + h.length) bytes) ≡ seal (packet_at h bytes)
    → is_sealed h bytes ≡ true
sealed_when h bytes e =
    let p = packet_at h bytes in
    let size : take (length (seal p)) (drop (40 + h.length) bytes) ≡ take (seal_len h.version) (drop (40 + h.length) bytes) =
    ap (λ (n : ℕ). take n (drop (40 + h.length) bytes)) (length-seal p) in
    (bytes_decides (seal p) (take (length (seal p)) (drop (40 + h.length) bytes))).1 (sym (size ∙ e))

pub seal_stands : (h : Header) (bytes : List ℕ) → is_sealed h bytes ≡ true → take (seal_len h.version) (drop (40 + h.length) bytes) ≡ seal (packet_at h bytes)
seal_stands h bytes sealed =
    let p = packet_at h bytes in
    let size : take (length (seal p)) (drop (40 + h.length) bytes) ≡ take (seal_len h.version) (drop (40 + h.length) bytes) =
    ap (λ (n : ℕ). take n (drop (40 + h.length) bytes)) (length-seal p) in
    sym size ∙ sym ((bytes_decides (seal p) (take (length (seal p)) (drop (40 + h.length) bytes))).0 sealed)

-- ---- what is encoded is read

packet_apart : (p : Packet) (more : List ℕ) → packet_bytes p ++ more ≡ head_bytes p.head ++ (p.payload ++ (seal p ++ more))
packet_apart p more =
    append_assoc (head_bytes p.head ++ p.payload) (seal p) more ∙ append_assoc (head_bytes p.head) p.payload (seal p ++ more)

pub length-packet_bytes : (p : Packet) → length p.payload ≡ p.head.length → length (packet_bytes p) ≡ packet_size p.head
length-packet_bytes p len =
    omega (arith, len, length-append (head_bytes p.head ++ p.payload) (seal p), length-append (head_bytes p.head) p.payload, length-head_bytes p.head, length-seal p)

pub packet_at-packet_bytes : (p : Packet) (more : List ℕ) → length p.payload ≡ p.head.length → packet_at p.head (packet_bytes p ++ more) ≡ p
packet_at-packet_bytes p more len =
    let after : drop 40 (packet_bytes p ++ more) ≡ p.payload ++ (seal p ++ more) =
    ap (λ (l : List ℕ). drop 40 l) (packet_apart p more) ∙ drop_at (head_bytes p.head) (p.payload ++ (seal p ++ more)) 40 (length-head_bytes p.head) in
    let payload : take p.head.length (drop 40 (packet_bytes p ++ more)) ≡ p.payload =
    ap (λ (l : List ℕ). take p.head.length l) after ∙ take_at p.payload (seal p ++ more) p.head.length len in
    ap (λ (t : List ℕ). let made : Packet = record { head = p.head; payload = t } in made) payload

packet_sealed : (p : Packet) (more : List ℕ) → length p.payload ≡ p.head.length → is_sealed p.head (packet_bytes p ++ more) ≡ true
packet_sealed p more len =
    let start = head_bytes p.head ++ p.payload in
    let size : length (head_bytes p.head ++ p.payload) ≡ 40 + p.head.length = omega (arith, len, length-append (head_bytes p.head) p.payload, length-head_bytes p.head) in
    let after : drop (40 + p.head.length) (packet_bytes p ++ more) ≡ seal p ++ more =
    ap (λ (l : List ℕ). drop (40 + p.head.length) l) (append_assoc (head_bytes p.head ++ p.payload) (seal p) more)
    ∙ drop_at (head_bytes p.head ++ p.payload) (seal p ++ more) (40 + p.head.length) size in
    sealed_when p.head (packet_bytes p ++ more)
    (ap (λ (l : List ℕ). take (seal_len p.head.version) l) after
    ∙ take_at (seal p) more (seal_len p.head.version) (length-seal p)
    ∙ ap seal (sym (packet_at-packet_bytes p more len)))

pub packet_begins : (e : Expect) (p : Packet) (more : List ℕ) → IsSoundPacket e p → BeginsWith e (packet_bytes p ++ more) p.head
packet_begins e p more is = record {
  header = record {
    sound = is.head;
    encoded = ap (λ (l : List ℕ). take 40 l) (packet_apart p more) ∙ take_at (head_bytes p.head) (p.payload ++ (seal p ++ more)) 40 (length-head_bytes p.head);
  };
  whole = omega (arith, length-packet_bytes p is.len, length-append (packet_bytes p) more);
  sealed = packet_sealed p more is.len;
}

pub packet_again : (e : Expect) (p : Packet) (more : List ℕ) → IsSoundPacket e p → decoded e (packet_bytes p ++ more) ≡ answers.Packet p.head (packet_size p.head)
packet_again e p more is = packet_reads e (packet_bytes p ++ more) p.head (packet_begins e p more is)

pub after_packet : (p : Packet) (more : List ℕ) → length p.payload ≡ p.head.length → drop (packet_size p.head) (packet_bytes p ++ more) ≡ more
after_packet p more len = drop_at (packet_bytes p) more (packet_size p.head) (length-packet_bytes p len)

-- ---- no packet begins another

pub one_packet : (e : Expect) (p q : Packet) (x y : List ℕ) → IsSoundPacket e p → IsSoundPacket e q → packet_bytes p ++ x ≡ packet_bytes q ++ y → (p ≡ q) × (x ≡ y)
one_packet e p q x y is_p is_q same =
    let heads = one_head p.head q.head (p.payload ++ (seal p ++ x)) (q.payload ++ (seal q ++ y)) is_p.head.header is_q.head.header
    (sym (packet_apart p x) ∙ same ∙ packet_apart q y) in
    let p-is : packet_at q.head (packet_bytes p ++ x) ≡ p = subst (λ (h : Header). packet_at h (packet_bytes p ++ x) ≡ p) heads.0 (packet_at-packet_bytes p x is_p.len) in
    let size : packet_size p.head ≡ packet_size q.head = ap packet_size heads.0 in (
      sym p-is ∙ ap (packet_at q.head) same ∙ packet_at-packet_bytes q y is_q.len,
      sym (after_packet p x is_p.len) ∙ ap (λ (n : ℕ). drop n (packet_bytes p ++ x)) size ∙ ap (λ (l : List ℕ). drop (packet_size q.head) l) same ∙ after_packet q y is_q.len,
    )

-- ---- what is read was encoded

pub packet_was : (e : Expect) (bytes : List ℕ) (h : Header) → BeginsWith e bytes h
    → IsSoundPacket e (packet_at h bytes) × (bytes ≡ packet_bytes (packet_at h bytes) ++ drop (packet_size h) bytes)
packet_was e bytes h begins =
    let whole : 40 + h.length + seal_len h.version ≤ length bytes = begins.whole in
    let len : length (take h.length (drop 40 bytes)) ≡ h.length = omega (arith, length-take h.length (drop 40 bytes), length-drop 40 bytes) in
    let start : bytes ≡ head_bytes h ++ drop 40 bytes = sym (take-append-drop 40 bytes) ∙ ap (λ (l : List ℕ). l ++ drop 40 bytes) begins.header.encoded in
    let end : drop (40 + h.length) bytes ≡ seal (packet_at h bytes) ++ drop (packet_size h) bytes =
    sym (take-append-drop (seal_len h.version) (drop (40 + h.length) bytes))
    ∙ ap (λ (l : List ℕ). l ++ drop (seal_len h.version) (drop (40 + h.length) bytes)) (seal_stands h bytes begins.sealed)
    ∙ ap (λ (l : List ℕ). seal (packet_at h bytes) ++ l) (drop-drop (seal_len h.version) (40 + h.length) bytes) in
    let back : drop 40 bytes ≡ take h.length (drop 40 bytes) ++ (seal (packet_at h bytes) ++ drop (packet_size h) bytes) =
    sym (take-append-drop h.length (drop 40 bytes))
    ∙ ap (λ (l : List ℕ). take h.length (drop 40 bytes) ++ l) (drop-drop h.length 40 bytes ∙ end) in (
      record { head = begins.header.sound; len = len },
      start ∙ ap (λ (l : List ℕ). head_bytes h ++ l) back ∙ sym (packet_apart (packet_at h bytes) (drop (packet_size h) bytes)),
    )

-- ---- an answer other than More stays whatever comes

head_at_stays : (bytes more : List ℕ) → 40 ≤ length bytes → head_at (bytes ++ more) ≡ head_at bytes
head_at_stays bytes more long =
    rw (
      word_stays w16 4 bytes more (omega arith),
      word_stays w16 6 bytes more (omega arith),
      word_stays w64 8 bytes more (omega arith),
      word_stays w32 16 bytes more (omega arith),
      word_stays w32 20 bytes more (omega arith),
      word_stays w32 24 bytes more (omega arith),
    ) refl

head_fault_stays : (e : Expect) (bytes more : List ℕ) → 40 ≤ length bytes → head_fault e (bytes ++ more) ≡ head_fault e bytes
unfolding head_fault
head_fault_stays e bytes more long =
    ap (λ (h : Header). first_failed (head_tests e (bytes ++ more) h)) (head_at_stays bytes more long)
    ∙ rw (word_stays w32 0 bytes more (omega arith), word_stays w16 6 bytes more (omega arith), word_stays w64 28 bytes more (omega arith), word_stays w32 36 bytes more (omega arith)) refl

piece_stays : (n place : ℕ) (bytes more : List ℕ) → place + n ≤ length bytes → take n (drop place (bytes ++ more)) ≡ take n (drop place bytes)
piece_stays n place bytes more h =
    ap (λ (l : List ℕ). take n l) (drop-append-le place bytes more (omega arith))
    ∙ take-append-le n (drop place bytes) more (omega (arith, length-drop place bytes))

is_sealed_stays : (h : Header) (bytes more : List ℕ) → packet_size h ≤ length bytes → is_sealed h (bytes ++ more) ≡ is_sealed h bytes
is_sealed_stays h bytes more whole =
    let payload : take h.length (drop 40 (bytes ++ more)) ≡ take h.length (drop 40 bytes) = piece_stays h.length 40 bytes more (omega arith) in
    let same : packet_at h (bytes ++ more) ≡ packet_at h bytes = ap (λ (t : List ℕ). let made : Packet = record { head = h; payload = t } in made) payload in
    let end : take (length (seal (packet_at h bytes))) (drop (40 + h.length) (bytes ++ more)) ≡ take (length (seal (packet_at h bytes))) (drop (40 + h.length) bytes) =
    piece_stays (length (seal (packet_at h bytes))) (40 + h.length) bytes more (omega (arith, length-seal (packet_at h bytes))) in
    ap (λ (p : Packet). starts_with nat_eq (drop (40 + h.length) (bytes ++ more)) (seal p)) same
    ∙ ap (pointwise nat_eq (seal (packet_at h bytes))) end

head_stays : (h : Header) (bytes more : List ℕ) → (decoded_head h bytes ≡ answers.More → ⊥) → decoded_head h (bytes ++ more) ≡ decoded_head h bytes
head_stays h bytes more not_more =
    elim (cases_lt (length bytes) (packet_size h)) [
      | inl short ↦ absurd (not_more (rw (lt-ltb (length bytes) (packet_size h) short) refl))
      | inr whole ↦
          let here = le-ltb (length bytes) (packet_size h) whole in
          let there = le-ltb (length (bytes ++ more)) (packet_size h) (omega (arith, length-append bytes more)) in
          rw (here, there, is_sealed_stays h bytes more whole) refl
    ]

after_stays : (o : Option Cause) (bytes more : List ℕ) → 40 ≤ length bytes → (decoded_after o bytes ≡ answers.More → ⊥) → decoded_after o (bytes ++ more) ≡ decoded_after o bytes
after_stays (Some cause) bytes more long not_more = refl
after_stays None bytes more long not_more =
    ap (λ (h : Header). decoded_head h (bytes ++ more)) (head_at_stays bytes more long) ∙ head_stays (head_at bytes) bytes more not_more

pub answer_stays : (e : Expect) (bytes more : List ℕ) → (decoded e bytes ≡ answers.More → ⊥) → decoded e (bytes ++ more) ≡ decoded e bytes
unfolding decoded
answer_stays e bytes more not_more =
    elim (cases_lt (length bytes) 40) [
      | inl few ↦ absurd (not_more (rw (lt-ltb (length bytes) 40 few) refl))
      | inr long ↦
          let here = le-ltb (length bytes) 40 long in
          let there = le-ltb (length (bytes ++ more)) 40 (omega (arith, length-append bytes more)) in
          let same = head_fault_stays e bytes more long in
          let stays_less : decoded_after (head_fault e bytes) bytes ≡ answers.More → ⊥ = λ is. not_more (rw here is) in
          rw (here, there, same) (after_stays (head_fault e bytes) bytes more long stays_less)
    ]
