-- Bytes that pass the tests encode a record of the stream.
use Rattle.std.proofs.Common.{◌≡◌, ℕ, ◌*◌, ◌<◌, ◌≤◌, Bool, true, false, cond, List, [], ◌∷◌, ◌++◌, length, get_or, take, drop, Option, Some, None, refl, sym, ap, ◌∙◌, inl, inr, arith}
use Rattle.std.specs.Prelude.{◌==◌, ◌||◌, not, nat_le}
use Rattle.std.specs.List.{AllByRecursion}
use Rattle.std.specs.Int.{w16, w32, w64, to_be_bytes}
use Rattle.std.proofs.lemmas.Bool.{cases_eq, ne_eqb, eq-eqb, and_parts, eqb-true, ltb-true, leb-true}
use Rattle.std.proofs.lemmas.List.{length-drop, take-append-drop}
use Rattle.std.proofs.Math.Seq.{take-add}
use Rattle.vfm_types.specs.declared.desc.DevShape.{DevShape}
use Rattle.vfm_types.specs.declared.desc.Desc.{Desc}
use Rattle.vfm_record.specs.declared.tag.Tag.{Tag}
use Rattle.vfm_record.specs.declared.tag.Tag.TheVariants as tags
use Rattle.vfm_base.specs.Words.{IsBytes, word_at}
use Rattle.vfm_record.specs.Record.{Record, record_bytes, KeepsBell, shape_of_stream, IsRecordOf}
use Rattle.vfm_record.specs.Tests.{Test, tag_of, tag_at, keeps_bell, number_of, page_tests, block_tests, engine_tests, pending_tests, config_tests, fault_after, record_fault, record_with, record_after, record_at}
use Rattle.vfm_base.specs.Tests.{first_failed}
use Rattle.vfm_base.proofs.NumbersInBytes.{word_16, word_32, word_64, IsBytes-drop}
use Rattle.vfm_record.proofs.Pairs.{length-pairs_of, pairs_fit, pending_encoded}

-- ---- the list of tests

abbrev pub Held : Test → Type 0
Held test = test.0 ≡ true

pub held_from_none : (tests : List Test) → first_failed tests ≡ None → AllByRecursion Held tests
held_from_none [] e = tt
held_from_none (test ∷ tests) e =
    let parts = cond_none test.0 (first_failed tests) test.1 e in
    (parts.0, held_from_none tests parts.1)
  where
    cond_none : (b : Bool) (o : Option ℕ) (place : ℕ) → cond b o (Some place) ≡ None → (b ≡ true) × (o ≡ None)
    cond_none true o place e = (refl, e)
    cond_none false o place e = absurd cc

-- ---- tags

-- what a tag says of the stream and of its number
abbrev pub TagFacts : ℕ → ℕ → Option Tag → Type 0
TagFacts stream n None = Unit {0}
TagFacts stream n (Some tags.Page) = (n ≡ 1) × (stream ≡ 0)
TagFacts stream n (Some tags.Block) = (n ≡ 2) × (0 < stream)
TagFacts stream n (Some tags.Engine) = (n ≡ 3) × (0 < stream)
TagFacts stream n (Some tags.Pending) = (n ≡ 4) × (0 < stream)
TagFacts stream n (Some tags.Config) = n ≡ 5

pub tag_facts : (stream n : ℕ) → TagFacts stream n (tag_of stream n)
tag_facts stream n =
    elim (cases_eq n 5) [
      | inl is ↦ rw is refl
      | inr not5 ↦
          elim (cases_eq stream 0) [
            | inl none ↦
                elim (cases_eq n 1) [
                  | inl is ↦ rw (is, none) (refl, refl)
                  | inr not1 ↦ rw (ne_eqb n 5 not5, eq-eqb stream 0 none, ne_eqb n 1 not1) tt
                ]
            | inr some ↦
                let above : 0 < stream = omega arith in
                elim (cases_eq n 2) [
                  | inl is ↦ rw (is, ne_eqb stream 0 some) (refl, above)
                  | inr not2 ↦
                      elim (cases_eq n 3) [
                        | inl is ↦ rw (is, ne_eqb stream 0 some) (refl, above)
                        | inr not3 ↦
                            elim (cases_eq n 4) [
                              | inl is ↦ rw (is, ne_eqb stream 0 some) (refl, above)
                              | inr not4 ↦ rw (ne_eqb n 5 not5, ne_eqb stream 0 some, ne_eqb n 2 not2, ne_eqb n 3 not3, ne_eqb n 4 not4) tt
                            ]
                      ]
                ]
          ]
    ]

-- ---- bytes in their fields

first_byte : (n : ℕ) (bytes : List ℕ) → 0 < length bytes → get_or bytes 0 0 ≡ n → take 1 bytes ≡ n ∷ []
first_byte n [] some e = absurd (omega arith)
first_byte n (byte ∷ bytes) some e = ap (λ (b : ℕ). b ∷ []) e

numbered_fields : (n : ℕ) (bytes : List ℕ) → get_or bytes 0 0 ≡ n → 5 ≤ length bytes → IsBytes bytes
    → bytes ≡ (n ∷ to_be_bytes w32 (word_at w32 1 bytes)) ++ drop 5 bytes
numbered_fields n bytes e long fits =
    let first = first_byte n bytes (omega arith) e in
    let number = word_32 1 bytes (omega arith) fits in
    sym (
    ap (λ (l : List ℕ). (n ∷ l) ++ drop 5 bytes) number.0
    ∙ ap (λ (l : List ℕ). (l ++ take 4 (drop 1 bytes)) ++ drop 5 bytes) (sym first)
    ∙ ap (λ (l : List ℕ). l ++ drop 5 bytes) (sym (take-add 1 4 bytes))
    ∙ take-append-drop 5 bytes
    )

engine_fields : (bytes : List ℕ) → get_or bytes 0 0 ≡ 3 → 17 ≤ length bytes → IsBytes bytes
    → bytes ≡ record_bytes (record_with tags.Engine bytes)
engine_fields bytes e long fits =
    let first = first_byte 3 bytes (omega arith) e in
    let a = word_32 1 bytes (omega arith) fits in
    let d = word_32 5 bytes (omega arith) fits in
    let l = word_32 9 bytes (omega arith) fits in
    let p = word_32 13 bytes (omega arith) fits in
    sym (
    encoded_by bytes 3 (word_at w32 1 bytes) (word_at w32 5 bytes) (word_at w32 9 bytes) (word_at w32 13 bytes)
    first (sym a.0) (sym d.0) (sym l.0) (sym p.0)
    ∙ take-append-drop 17 bytes
    )
  where
    fields : (l : List ℕ) → take 17 l ≡ (((take 1 l ++ take 4 (drop 1 l)) ++ take 4 (drop 5 l)) ++ take 4 (drop 9 l)) ++ take 4 (drop 13 l)
    fields l = rw (take-add 13 4 l, take-add 9 4 l, take-add 5 4 l, take-add 1 4 l) refl

    encoded_by : (x : List ℕ) (n a d l p : ℕ) → take 1 x ≡ n ∷ [] → take 4 (drop 1 x) ≡ to_be_bytes w32 a → take 4 (drop 5 x) ≡ to_be_bytes w32 d
        → take 4 (drop 9 x) ≡ to_be_bytes w32 l → take 4 (drop 13 x) ≡ to_be_bytes w32 p
        → (n ∷ (to_be_bytes w32 a ++ to_be_bytes w32 d ++ to_be_bytes w32 l ++ to_be_bytes w32 p)) ++ drop 17 x ≡ take 17 x ++ drop 17 x
    encoded_by x n a d l p first ea ed el ep =
        let front : take 17 x ≡ n ∷ (to_be_bytes w32 a ++ to_be_bytes w32 d ++ to_be_bytes w32 l ++ to_be_bytes w32 p) =
        fields x ∙ rw (first, ea, ed, el, ep) refl in
        ap (λ (t : List ℕ). t ++ drop 17 x) (sym front)

pending_fields : (bytes : List ℕ) → get_or bytes 0 0 ≡ 4 → 3 ≤ length bytes → IsBytes bytes
    → bytes ≡ (4 ∷ to_be_bytes w16 (word_at w16 1 bytes)) ++ drop 3 bytes
pending_fields bytes e long fits =
    let first = first_byte 4 bytes (omega arith) e in
    let count = word_16 1 bytes (omega arith) fits in
    sym (
    ap (λ (l : List ℕ). (4 ∷ l) ++ drop 3 bytes) count.0
    ∙ ap (λ (l : List ℕ). (l ++ take 2 (drop 1 bytes)) ++ drop 3 bytes) (sym first)
    ∙ ap (λ (l : List ℕ). l ++ drop 3 bytes) (sym (take-add 1 2 bytes))
    ∙ take-append-drop 3 bytes
    )

config_fields : (bytes : List ℕ) → get_or bytes 0 0 ≡ 5 → 1 ≤ length bytes → bytes ≡ 5 ∷ drop 1 bytes
config_fields bytes e long =
    sym (
    ap (λ (l : List ℕ). l ++ drop 1 bytes) (sym (first_byte 5 bytes (omega arith) e))
    ∙ take-append-drop 1 bytes
    )

-- ---- what passes the tests

imply : (x y : Bool) → (not x || y) ≡ true → x ≡ true → y ≡ true
imply true y both is = both
imply false y both is = absurd cc

bell_kept : (bytes : List ℕ) → 13 ≤ length bytes → IsBytes bytes → keeps_bell bytes ≡ true → KeepsBell (number_of bytes) (drop 5 bytes)
bell_kept bytes long fits kept is_first =
    let zero_word : word_at w64 5 bytes ≡ 0 = eqb-true _ _ (imply (number_of bytes == 0) (word_at w64 5 bytes == 0) kept (eq-eqb _ _ is_first)) in
    let word = word_64 5 bytes (omega arith) fits in
    sym word.0 ∙ ap (to_be_bytes w64) zero_word

-- a record of the stream, which the bytes encode
abbrev pub IsEncoding : Desc → ℕ → List ℕ → Record → Type 0
IsEncoding D stream bytes r = IsRecordOf D stream r × (bytes ≡ record_bytes r)

page_found : (D : Desc) (stream : ℕ) (bytes : List ℕ) → IsBytes bytes → get_or bytes 0 0 ≡ 1 → stream ≡ 0
    → first_failed (page_tests D bytes) ≡ None → IsEncoding D stream bytes (record_with tags.Page bytes)
unfolding page_tests
page_found D stream bytes fits first memory none =
    let held = held_from_none (page_tests D bytes) none in
    let len = eqb-true _ _ held.0 in
    let below = ltb-true _ _ held.1.0 in
    let number = word_32 1 bytes (omega arith) fits in
    (record { fits = number.1; of = (memory, below, omega (arith, length-drop 5 bytes)) }, numbered_fields 1 bytes first (omega arith) fits)

block_found : (D : Desc) (stream : ℕ) (shape : DevShape) (bytes : List ℕ) → IsBytes bytes → get_or bytes 0 0 ≡ 2 → 0 < stream
    → shape ≡ shape_of_stream D stream
    → first_failed (block_tests shape bytes) ≡ None → IsEncoding D stream bytes (record_with tags.Block bytes)
unfolding block_tests
block_found D stream shape bytes fits first device is none =
    let held = held_from_none (block_tests shape bytes) none in
    let len = eqb-true _ _ held.0 in
    let below = rw is at (ltb-true _ _ held.1.0) in
    let number = word_32 1 bytes (omega arith) fits in (
      record { fits = number.1; of = (device, below, omega (arith, length-drop 5 bytes), bell_kept bytes (omega arith) fits held.1.1.0) },
      numbered_fields 2 bytes first (omega arith) fits,
    )

engine_found : (D : Desc) (stream : ℕ) (bytes : List ℕ) → IsBytes bytes → get_or bytes 0 0 ≡ 3 → 0 < stream
    → first_failed (engine_tests (shape_of_stream D stream) bytes) ≡ None → IsEncoding D stream bytes (record_with tags.Engine bytes)
unfolding engine_tests
engine_found D stream bytes fits first device none =
    let held = held_from_none (engine_tests (shape_of_stream D stream) bytes) none in
    let len = eqb-true _ _ held.0 in
    let budget = leb-true _ _ held.1.0 in
    let sum = eqb-true _ _ held.1.1.0 in
    let lost = leb-true _ _ held.1.1.1.0 in
    let a = word_32 1 bytes (omega arith) fits in
    let d = word_32 5 bytes (omega arith) fits in
    let l = word_32 9 bytes (omega arith) fits in
    let p = word_32 13 bytes (omega arith) fits in (
      record { fits = (a.1, d.1, l.1, p.1); of = (device, budget, sum, lost, omega (arith, length-drop 17 bytes)) },
      engine_fields bytes first (omega arith) fits,
    )

pending_found : (D : Desc) (stream : ℕ) (bytes : List ℕ) → IsBytes bytes → get_or bytes 0 0 ≡ 4 → 0 < stream
    → first_failed (pending_tests bytes) ≡ None → IsEncoding D stream bytes (record_with tags.Pending bytes)
unfolding pending_tests
pending_found D stream bytes fits first device none =
    let held = held_from_none (pending_tests bytes) none in
    let long = leb-true _ _ held.0 in
    let range = and_parts (nat_le 1 (word_at w16 1 bytes)) (nat_le (word_at w16 1 bytes) 4096) held.1.0 in
    let low : 1 ≤ word_at w16 1 bytes = leb-true _ _ range.0 in
    let high : word_at w16 1 bytes ≤ 4096 = leb-true _ _ range.1 in
    let len = eqb-true _ _ held.1.1.0 in
    let rest : length (drop 3 bytes) ≡ 8 * word_at w16 1 bytes = omega (arith, length-drop 3 bytes) in
    let many = length-pairs_of (word_at w16 1 bytes) (drop 3 bytes) in
    let behind = IsBytes-drop 3 bytes fits in (
      record {
        fits = (omega (arith, many, high), pairs_fit (word_at w16 1 bytes) (drop 3 bytes) rest behind);
        of = (device, omega (arith, many, low), omega (arith, many, high));
      },
      pending_fields bytes first (omega arith) fits ∙ pending_encoded (word_at w16 1 bytes) (drop 3 bytes) rest behind,
    )

config_found : (D : Desc) (stream : ℕ) (bytes : List ℕ) → get_or bytes 0 0 ≡ 5
    → first_failed (config_tests bytes) ≡ None → IsEncoding D stream bytes (record_with tags.Config bytes)
unfolding config_tests
config_found D stream bytes first none =
    let held = held_from_none (config_tests bytes) none in
    let len = eqb-true _ _ held.0 in
    (record { fits = tt; of = omega (arith, length-drop 1 bytes) }, config_fields bytes first (omega arith))

after_found : (D : Desc) (stream : ℕ) (bytes : List ℕ) → IsBytes bytes → (o : Option Tag) → TagFacts stream (get_or bytes 0 0) o
    → fault_after D stream o bytes ≡ None → IsEncoding D stream bytes (record_after o bytes)
after_found D stream bytes fits None facts none = absurd cc
after_found D stream bytes fits (Some tags.Page) facts none = page_found D stream bytes fits facts.0 facts.1 none
after_found D stream bytes fits (Some tags.Block) facts none = block_found D stream (shape_of_stream D stream) bytes fits facts.0 facts.1 refl none
after_found D stream bytes fits (Some tags.Engine) facts none = engine_found D stream bytes fits facts.0 facts.1 none
after_found D stream bytes fits (Some tags.Pending) facts none = pending_found D stream bytes fits facts.0 facts.1 none
after_found D stream bytes fits (Some tags.Config) facts none = config_found D stream bytes facts none

-- bytes that pass the tests encode the record that is read
pub found : (D : Desc) (stream : ℕ) (bytes : List ℕ) → IsBytes bytes → record_fault D stream bytes ≡ None
    → IsEncoding D stream bytes (record_at stream bytes)
unfolding record_fault
found D stream bytes fits none = after_found D stream bytes fits (tag_at stream bytes) (tag_facts stream (get_or bytes 0 0)) none
