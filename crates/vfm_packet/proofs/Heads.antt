-- A header that is encoded is read again, and forty bytes that pass the tests encode a sound header.
use Rattle.std.proofs.Common.{◌≡◌, ℕ, ◌^◌, ◌<◌, ◌≤◌, Bool, true, false, cond, List, [], ◌∷◌, ◌++◌, length, take, drop, Option, Some, None, refl, sym, ap, subst, ◌∙◌, inl, inr, arith}
use Rattle.std.specs.Prelude.{IsTrue, is_some, unwrap_or}
use Rattle.std.specs.List.{AllByRecursion}
use Rattle.std.specs.Int.{w16, w32, w64, to_be_bytes}
use Rattle.std.proofs.lemmas.Bool.{cases_eq, ne_eqb, and_from, and_parts, eqb-true, eq-eqb, ltb-true, lt-ltb, leb-true, le-leb}
use Rattle.std.proofs.Math.Seq.{take-add}
use Rattle.vfm_packet.specs.declared.header.Header.{Header}
use Rattle.vfm_packet.specs.declared.header.Kind.{Kind}
use Rattle.vfm_packet.specs.declared.header.Kind.TheVariants.{Data, Config, End, Abort}
use Rattle.vfm_packet.specs.declared.answer.Expect.{Expect}
use Rattle.vfm_packet.specs.declared.answer.Cause.{Cause}
use Rattle.vfm_base.specs.Words.{IsBytes}
use Rattle.vfm_packet.specs.Header.{kind_number, kind_of_number, carries, head_bytes, HasHeaderShape, IsVersion, IsHeader}
use Rattle.vfm_base.specs.Words.{word_at}
use Rattle.vfm_base.specs.Tests.{first_failed}
use Rattle.vfm_packet.specs.Sound.{IsSound, kind_at, head_at, knows_stream, has_length, has_zeros, head_tests, head_fault}
use Rattle.vfm_base.proofs.NumbersInBytes.{word_16, word_32, word_64}
use Rattle.vfm_packet.proofs.Words.{magic_of, version_of, kind_of, session_of, stream_of, index_of, length_of, spare_high_of, spare_low_of}

-- ---- the list of tests

abbrev Held : Bool × Cause → Type 0
Held test = test.0 ≡ true

first_failed-held : (tests : List (Bool × Cause)) → AllByRecursion Held tests → first_failed tests ≡ None
first_failed-held [] held = refl
first_failed-held (test ∷ tests) held = rw held.0 (first_failed-held tests held.1)

cond_none : (b : Bool) (o : Option Cause) (cause : Cause) → cond b o (Some cause) ≡ None → (b ≡ true) × (o ≡ None)
cond_none true o cause e = (refl, e)
cond_none false o cause e = absurd cc

held_from_none : (tests : List (Bool × Cause)) → first_failed tests ≡ None → AllByRecursion Held tests
held_from_none [] e = tt
held_from_none (test ∷ tests) e =
    let parts = cond_none test.0 (first_failed tests) test.1 e in
    (parts.0, held_from_none tests parts.1)

-- ---- kinds

kind_below : (kind : Kind) → kind_number kind < 2 ^ 16
kind_below Data = omega arith
kind_below Config = omega arith
kind_below End = omega arith
kind_below Abort = omega arith

kind_again : (kind : Kind) → kind_of_number (kind_number kind) ≡ Some kind
kind_again Data = refl
kind_again Config = refl
kind_again End = refl
kind_again Abort = refl

-- a version fits its field
version_below : (version : ℕ) → IsVersion version → version < 2 ^ 16
version_below version is = omega (arith, is.1)

-- a header's length fits its field
length_below : (b : Bool) (h : Header) → HasHeaderShape b h → h.length < 2 ^ 32
length_below true h shape = omega (arith, shape.1)
length_below false h shape = omega (arith, shape.2)

-- ---- the tests of a header's shape

knows_stream_from : (b : Bool) (e : Expect) (h : Header) → (IsTrue b → h.stream < e.streams) → knows_stream b e h ≡ true
knows_stream_from true e h below = lt-ltb _ _ (below refl)
knows_stream_from false e h below = refl

has_length_from : (b : Bool) (h : Header) → HasHeaderShape b h → has_length b h ≡ true
has_length_from true h shape = and_from _ _ (lt-ltb _ _ shape.0) (le-leb _ _ shape.1)
has_length_from false h shape = refl

has_zeros_from : (b : Bool) (h : Header) → HasHeaderShape b h → has_zeros b h ≡ true
has_zeros_from true h shape = refl
has_zeros_from false h shape = and_from _ _ (and_from _ _ (eq-eqb _ _ shape.0) (eq-eqb _ _ shape.1)) (eq-eqb _ _ shape.2)

stream_from : (b : Bool) (e : Expect) (h : Header) → knows_stream b e h ≡ true → IsTrue b → h.stream < e.streams
stream_from true e h known t = ltb-true _ _ known
stream_from false e h known t = absurd cc

shape_from : (b : Bool) (h : Header) → has_length b h ≡ true → has_zeros b h ≡ true → HasHeaderShape b h
shape_from true h len zeros =
    let parts = and_parts _ _ len in
    (ltb-true _ _ parts.0, leb-true _ _ parts.1)
shape_from false h len zeros =
    let parts = and_parts _ _ zeros in
    let first = and_parts _ _ parts.0 in
    (eqb-true _ _ first.0, eqb-true _ _ first.1, eqb-true _ _ parts.1)

-- ---- what is encoded is read

pub head_at-head_bytes : (h : Header) (rest : List ℕ) → IsHeader h → head_at (head_bytes h ++ rest) ≡ h
head_at-head_bytes h rest is =
    let v = version_of h rest (version_below h.version is.version) in
    let k = kind_of h rest (kind_below h.kind) in
    let again = kind_again h.kind in
    let s = session_of h rest is.session in
    let t = stream_of h rest is.stream in
    let i = index_of h rest is.index in
    let l = length_of h rest (length_below (carries h.kind) h is.shape) in
    rw (v, k, again, s, t, i, l) refl

pub no_fault : (e : Expect) (h : Header) (rest : List ℕ) → IsSound e h → head_fault e (head_bytes h ++ rest) ≡ None
unfolding head_fault
no_fault e h rest is =
    let bytes = head_bytes h ++ rest in
    let shape = is.header.shape in
    let kind : is_some (kind_of_number (word_at w16 6 (head_bytes h ++ rest))) ≡ true =
    rw (kind_of h rest (kind_below h.kind), kind_again h.kind) refl in
    let tests : AllByRecursion Held (head_tests e (head_bytes h ++ rest) h) = (
      eq-eqb _ _ (magic_of h rest),
      (
        eq-eqb _ _ is.version,
        (
          kind,
          (
            and_from _ _ (eq-eqb _ _ is.session) (knows_stream_from (carries h.kind) e h is.stream),
            (
              has_length_from (carries h.kind) h shape,
              (
                and_from _ _ (and_from _ _ (eq-eqb _ _ (spare_high_of h rest)) (eq-eqb _ _ (spare_low_of h rest))) (has_zeros_from (carries h.kind) h shape),
                tt,
              ),
            ),
          ),
        ),
      ),
    ) in
    ap (λ (k : Header). first_failed (head_tests e (head_bytes h ++ rest) k)) (head_at-head_bytes h rest is.header)
    ∙ first_failed-held (head_tests e (head_bytes h ++ rest) h) tests

-- ---- what passes the tests is encoded

kind_from : (n : ℕ) → is_some (kind_of_number n) ≡ true → kind_number (unwrap_or (kind_of_number n) Abort) ≡ n
kind_from n e =
    elim (cases_eq n 1) [
      | inl is1 ↦ rw is1 refl
      | inr no1 ↦
          elim (cases_eq n 2) [
            | inl is2 ↦ rw is2 refl
            | inr no2 ↦
                elim (cases_eq n 3) [
                  | inl is3 ↦ rw is3 refl
                  | inr no3 ↦
                      elim (cases_eq n 4) [
                        | inl is4 ↦ rw is4 refl
                        | inr no4 ↦
                            let none : is_some (kind_of_number n) ≡ false = rw (ne_eqb n 1 no1, ne_eqb n 2 no2, ne_eqb n 3 no3, ne_eqb n 4 no4) refl in
                            absurd cc
                      ]
                ]
          ]
    ]

fields : (l : List ℕ) → take 40 l ≡
    (((((((take 4 (drop 0 l) ++ take 2 (drop 4 l)) ++ take 2 (drop 6 l)) ++ take 8 (drop 8 l)) ++ take 4 (drop 16 l)) ++ take 4 (drop 20 l)) ++ take 4 (drop 24 l))
    ++ take 8 (drop 28 l)) ++ take 4 (drop 36 l)
fields l = rw (take-add 36 4 l, take-add 28 8 l, take-add 24 4 l, take-add 20 4 l, take-add 16 4 l, take-add 8 8 l, take-add 6 2 l, take-add 4 2 l) refl

-- the forty bytes of a header, field by field
encoded_by : (l : List ℕ) (h : Header)
    → take 4 (drop 0 l) ≡ to_be_bytes w32 0x56464d44 → take 2 (drop 4 l) ≡ to_be_bytes w16 h.version → take 2 (drop 6 l) ≡ to_be_bytes w16 (kind_number h.kind)
    → take 8 (drop 8 l) ≡ to_be_bytes w64 h.session → take 4 (drop 16 l) ≡ to_be_bytes w32 h.stream → take 4 (drop 20 l) ≡ to_be_bytes w32 h.index
    → take 4 (drop 24 l) ≡ to_be_bytes w32 h.length → take 8 (drop 28 l) ≡ to_be_bytes w64 0 → take 4 (drop 36 l) ≡ to_be_bytes w32 0
    → take 40 l ≡ head_bytes h
unfolding head_bytes
encoded_by l h m v k s t i n z y = fields l ∙ rw (m, v, k, s, t, i, n, z, y) refl

pub sound_when : (e : Expect) (bytes : List ℕ) → IsBytes bytes → 40 ≤ length bytes → head_fault e bytes ≡ None
    → IsSound e (head_at bytes) × (take 40 bytes ≡ head_bytes (head_at bytes))
unfolding head_fault
sound_when e bytes fits long none =
    let m = word_32 0 bytes (omega arith) fits in
    let v = word_16 4 bytes (omega arith) fits in
    let k = word_16 6 bytes (omega arith) fits in
    let s = word_64 8 bytes (omega arith) fits in
    let t = word_32 16 bytes (omega arith) fits in
    let i = word_32 20 bytes (omega arith) fits in
    let n = word_32 24 bytes (omega arith) fits in
    let z = word_64 28 bytes (omega arith) fits in
    let y = word_32 36 bytes (omega arith) fits in
    let held = held_from_none (head_tests e bytes (head_at bytes)) none in
    let h = head_at bytes in
    let magic-is = eqb-true _ _ held.0 in
    let version-is = eqb-true _ _ held.1.0 in
    let kind-is = kind_from (word_at w16 6 bytes) held.1.1.0 in
    let foreign = and_parts _ _ held.1.1.1.0 in
    let len = held.1.1.1.1.0 in
    let last = and_parts _ _ held.1.1.1.1.1.0 in
    let zeros = and_parts _ _ last.0 in (
      record {
        header = record {
          version = subst IsVersion (sym version-is) e.known;
          session = s.1;
          stream = t.1;
          index = i.1;
          shape = shape_from (carries (kind_at bytes)) (head_at bytes) len last.1;
        };
        version = version-is;
        session = eqb-true _ _ foreign.0;
        stream = stream_from (carries (kind_at bytes)) e (head_at bytes) foreign.1;
      },
      encoded_by bytes (head_at bytes)
          (sym m.0 ∙ ap (to_be_bytes w32) magic-is) (sym v.0) (sym k.0 ∙ ap (to_be_bytes w16) (sym kind-is))
          (sym s.0) (sym t.0) (sym i.0) (sym n.0)
          (sym z.0 ∙ ap (to_be_bytes w64) (eqb-true _ _ zeros.0)) (sym y.0 ∙ ap (to_be_bytes w32) (eqb-true _ _ zeros.1)),
    )
