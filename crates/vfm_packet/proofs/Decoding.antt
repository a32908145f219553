-- What the answer at the start of some bytes means, and when it comes.
use Rattle.std.proofs.Common.{◌≡◌, ℕ, ◌≤◌, Bool, true, false, cond, List, [], ◌∷◌, ◌++◌, length, take, drop, Option, Some, None, refl, sym, ap, ◌∙◌, inl, inr, arith}
use Rattle.std.specs.List.{AllByRecursion}
use Rattle.std.proofs.lemmas.Bool.{cases_lt, lt-ltb, le-ltb}
use Rattle.std.proofs.lemmas.List.{take-append-drop, length-append}
use Rattle.vfm_packet.specs.declared.header.Header.{Header}
use Rattle.vfm_packet.specs.declared.answer.Expect.{Expect}
use Rattle.vfm_packet.specs.declared.answer.Cause.{Cause}
use Rattle.vfm_packet.specs.declared.answer.Cause.TheVariants.{Corrupt}
use Rattle.vfm_packet.specs.declared.answer.Decoded.{Decoded}
use Rattle.vfm_packet.specs.declared.answer.Decoded.TheVariants.{Packet, More, Bad}
use Rattle.vfm_base.specs.Words.{IsBytes}
use Rattle.vfm_packet.specs.Header.{head_bytes}
use Rattle.vfm_base.specs.Tests.{first_failed}
use Rattle.vfm_packet.specs.Sound.{head_at, head_tests, head_fault}
use Rattle.vfm_packet.specs.Packet.{packet_size}
use Rattle.vfm_packet.specs.Answer.{is_sealed, decoded, decoded_head, decoded_after, HasHeader, BeginsWith, IsPartial, HasNoHeader, IsCorrupt, IsRefused}
use Rattle.vfm_packet.proofs.Words.{length-head_bytes}
use Rattle.vfm_packet.proofs.Heads.{head_at-head_bytes, no_fault, sound_when}

-- ---- when each answer comes

-- the bytes that begin with a header, apart
apart : (h : Header) (bytes : List ℕ) → take 40 bytes ≡ head_bytes h → bytes ≡ head_bytes h ++ drop 40 bytes
apart h bytes e = sym (take-append-drop 40 bytes) ∙ ap (λ (start : List ℕ). start ++ drop 40 bytes) e

-- the header that was encoded is the one that is found, and it passes the tests
pub header_found : (e : Expect) (h : Header) (bytes : List ℕ) → HasHeader e bytes h → (head_fault e bytes ≡ None) × (head_at bytes ≡ h)
header_found e h bytes has =
    let parts = apart h bytes has.encoded in (
      ap (head_fault e) parts ∙ no_fault e h (drop 40 bytes) has.sound,
      ap head_at parts ∙ head_at-head_bytes h (drop 40 bytes) has.sound.header,
    )

pub long_enough : (h : Header) (bytes : List ℕ) → take 40 bytes ≡ head_bytes h → 40 ≤ length bytes
long_enough h bytes encoded = omega (arith, ap length (apart h bytes encoded), length-append (head_bytes h) (drop 40 bytes), length-head_bytes h)

-- the answer about bytes that begin with a sound header
with_header : (e : Expect) (bytes : List ℕ) (h : Header) → HasHeader e bytes h → decoded e bytes ≡ decoded_head h bytes
unfolding decoded
with_header e bytes h has =
    let found = header_found e h bytes has in
    let long = le-ltb (length bytes) 40 (long_enough h bytes has.encoded) in
    rw (long, found.0) (ap (λ (g : Header). decoded_head g bytes) found.1)

pub packet_reads : (e : Expect) (bytes : List ℕ) (h : Header) → BeginsWith e bytes h → decoded e bytes ≡ Packet h (packet_size h)
packet_reads e bytes h begins =
    let whole = le-ltb (length bytes) (packet_size h) begins.whole in
    with_header e bytes h begins.header ∙ rw (whole, begins.sealed) refl

pub partial_reads : (e : Expect) (bytes : List ℕ) → IsPartial e bytes → decoded e bytes ≡ More
unfolding decoded
partial_reads e bytes (inl few) = rw (lt-ltb (length bytes) 40 few) refl
partial_reads e bytes (inr cut) =
    let short = lt-ltb (length bytes) (packet_size cut.head) cut.short in
    with_header e bytes cut.head cut.header ∙ rw short refl

pub corrupt_reads : (e : Expect) (bytes : List ℕ) → IsCorrupt e bytes → decoded e bytes ≡ Bad Corrupt
corrupt_reads e bytes is =
    let whole = le-ltb (length bytes) (packet_size is.head) is.whole in
    with_header e bytes is.head is.header ∙ rw (whole, is.other) refl

pub refused_reads : (e : Expect) (bytes : List ℕ) (cause : Cause) → IsRefused e bytes cause → decoded e bytes ≡ Bad cause
unfolding decoded
refused_reads e bytes cause (inl none) = rw (le-ltb (length bytes) 40 none.long, none.fault) refl
refused_reads e bytes cause (inr is) = corrupt_reads e bytes is.1 ∙ ap Bad (sym is.0)

-- ---- what each answer means

abbrev pub Reads : Expect → List ℕ → Decoded → Type 0
Reads e bytes (Packet h used) = BeginsWith e bytes h × (used ≡ packet_size h)
Reads e bytes More = IsPartial e bytes
Reads e bytes (Bad cause) = IsRefused e bytes cause

no_header : (e : Expect) (bytes : List ℕ) (cause : Cause) → 40 ≤ length bytes → head_fault e bytes ≡ Some cause → HasNoHeader e bytes cause
no_header e bytes cause long fault = record {
  long = long;
  none = λ h has. let found = header_found e h bytes has in absurd cc;
  fault = fault;
}

-- what a whole packet is, by its seal
reads_seal : (b : Bool) (e : Expect) (bytes : List ℕ) (h : Header) → HasHeader e bytes h → packet_size h ≤ length bytes → is_sealed h bytes ≡ b
    → Reads e bytes (cond b (Packet h (packet_size h)) (Bad Corrupt))
reads_seal true e bytes h has whole sealed = (record { header = has; whole = whole; sealed = sealed }, refl)
reads_seal false e bytes h has whole other = inr (refl, record { head = h; header = has; whole = whole; other = other })

reads_head : (e : Expect) (bytes : List ℕ) (h : Header) → HasHeader e bytes h → Reads e bytes (decoded_head h bytes)
reads_head e bytes h has =
    elim (cases_lt (length bytes) (packet_size h)) [
      | inl short ↦
          let less = lt-ltb (length bytes) (packet_size h) short in
          rw less (inr (record { head = h; header = has; short = short }))
      | inr whole ↦
          let enough = le-ltb (length bytes) (packet_size h) whole in
          rw enough (reads_seal (is_sealed h bytes) e bytes h has whole refl)
    ]

reads_after : (e : Expect) (bytes : List ℕ) → IsBytes bytes → 40 ≤ length bytes → (o : Option Cause) → head_fault e bytes ≡ o → Reads e bytes (decoded_after o bytes)
reads_after e bytes fits long (Some cause) fault = inl (no_header e bytes cause long fault)
reads_after e bytes fits long None fault =
    let sound = sound_when e bytes fits long fault in
    reads_head e bytes (head_at bytes) (record { sound = sound.0; encoded = sound.1 })

pub reads : (e : Expect) (bytes : List ℕ) → IsBytes bytes → Reads e bytes (decoded e bytes)
unfolding decoded
reads e bytes fits =
    elim (cases_lt (length bytes) 40) [
      | inl few ↦ rw (lt-ltb (length bytes) 40 few) (inl few)
      | inr long ↦ rw (le-ltb (length bytes) 40 long) (reads_after e bytes fits long (head_fault e bytes) refl)
    ]

-- ---- no test of a header finds a wrong seal

other_cause : (b : Bool) (o : Option Cause) (cause : Cause) → (cause ≡ Corrupt → ⊥) → (o ≡ Some Corrupt → ⊥) → cond b o (Some cause) ≡ Some Corrupt → ⊥
other_cause true o cause here later e = later e
other_cause false o cause here later e = let same : cause ≡ Corrupt = cc in here same

none_corrupt : (tests : List (Bool × Cause)) → AllByRecursion (λ (test : Bool × Cause). test.1 ≡ Corrupt → ⊥) tests → first_failed tests ≡ Some Corrupt → ⊥
none_corrupt [] others e = absurd cc
none_corrupt (test ∷ tests) others e = other_cause test.0 (first_failed tests) test.1 others.0 (none_corrupt tests others.1) e

no_test_of_seals : (e : Expect) (bytes : List ℕ) → head_fault e bytes ≡ Some Corrupt → ⊥
unfolding head_fault
no_test_of_seals e bytes fault =
    none_corrupt (head_tests e bytes (head_at bytes))
    (λ q. absurd cc, (λ q. absurd cc, (λ q. absurd cc, (λ q. absurd cc, (λ q. absurd cc, (λ q. absurd cc, tt)))))) fault

pub corrupt_when : (e : Expect) (bytes : List ℕ) → IsRefused e bytes Corrupt → IsCorrupt e bytes
corrupt_when e bytes (inl none) = absurd (no_test_of_seals e bytes none.fault)
corrupt_when e bytes (inr is) = is.1
